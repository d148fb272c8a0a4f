-- A record that comes next.
use Rattle.std.proofs.Common.{◌≡◌, List, Ok, Some, Option, subst}
use Rattle.words.specs.declared.kind.Kind.{Kind}
use Rattle.words.specs.declared.reader.Reader.{Reader}
use Rattle.records.specs.declared.found.Found.{Found}
use Rattle.records.specs.Gathering.{Comes}

pub came : (kinds : List Kind) (old new : Reader) (o : Option Found) (x : Found) → o ≡ Some x → Comes kinds old (Ok o) new → Comes kinds old (Ok (Some x)) new
came kinds old new o x e h = subst (λ o. Comes kinds old (Ok o) new) e h
