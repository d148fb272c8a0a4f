-- What layers, kinds, refusals and faults are called.
use Rattle.std.specs.Prelude.{ℕ, List, ◌++◌, codes, decimal}
use Rattle.words.specs.declared.bytes.BytesError.{BytesError}
use Rattle.words.specs.declared.bytes.BytesError.TheVariants.{NoMemory, Cut}
use Rattle.words.specs.declared.fault.Fault.{Fault}
use Rattle.words.specs.declared.fault.Fault.TheVariants.{Ended, Misplaced}
use Rattle.words.specs.declared.fault.Layer.{Layer}
use Rattle.words.specs.declared.fault.Layer.TheVariants as layer
use Rattle.words.specs.declared.fault.Refusal.{Refusal}
use Rattle.words.specs.declared.kind.Kind.{Kind}
use Rattle.words.specs.declared.kind.NoKind.{NoKind}
use Rattle.words.specs.declared.kind.Kind.TheVariants.{Machine, Regions, Task, Channel, Exec, Transfer, End}

-- a layer by its name
abbrev pub layer_of : Layer → List ℕ
layer_of layer.Words = codes "words"
layer_of layer.Records = codes "records"
layer_of layer.Sheet = codes "sheet"
layer_of layer.Bench = codes "bench"

-- a kind, with its article
abbrev pub kind_text : Kind → List ℕ
kind_text Machine = codes "a machine"
kind_text Regions = codes "regions"
kind_text Task = codes "a task"
kind_text Channel = codes "a channel"
kind_text Exec = codes "an exec"
kind_text Transfer = codes "a transfer"
kind_text End = codes "an end"

-- a number that no kind has
abbrev pub no_kind_text : NoKind → List ℕ
no_kind_text x = decimal x.0 ++ codes " is no kind"

-- a refusal by its number, layer and place
abbrev pub refusal_text : Refusal → List ℕ
refusal_text r = decimal r.number ++ (codes " in " ++ (layer_of r.layer ++ (codes " at " ++ decimal r.place)))

-- what a fault means
abbrev pub fault_text : Fault → List ℕ
fault_text (Ended place) = codes "the file ends where a word is due"
fault_text (Misplaced place) = codes "a word of this kind may not stand here"

-- why bytes give no words
abbrev pub bytes_text : BytesError → List ℕ
bytes_text NoMemory = codes "out of memory"
bytes_text (Cut f) = fault_text f
