mod Scans
mod Texts
mod Pieces
