-- A span of the lane, by its plain numbers.
use Rattle.lane.specs.Claims.{Claimed}
use Rattle.lane.specs.declared.claim.Span.{Span}

abbrev pub span_of : Span → Claimed
span_of x = record { resource = x.resource; first = x.first; length = x.length }
