use Rattle.std.proofs.Common.{◌≡◌, ℕ, ◌∙◌, rules}
use Rattle.std.specs.Borrow.{Bor}
use Rattle.std.specs.Slice.Iter.{iter_steps}
use Rattle.std.specs.Iterator.Adapters.{enumerate_steps}
use Rattle.std.proofs.lemmas.Iterator.Consumers.{fold_from_yields_List, YieldsList-from_enumerate}
use Rattle.std.proofs.lemmas.Iterator.{YieldsList, YieldsList-from_slice}
use Rattle.std.specs.List.{fold, enumerate_from}
use Rattle.hex_text.specs.declared.State.{State}
use Rattle.hex_text.specs.declared.State.TheVariants.{Between}
use Rattle.hex_text.specs.Scan.{step}
use Rattle.hex_text.proofs.Scans.{run_fold}
use Rattle.hex_text.proofs.run.Goals as goal

pub returns : goal.returns
returns c =
    let text = c.args.text.now in
    let y : YieldsList {A = ℕ × Bor ℕ} {B = ℕ × ℕ} (enumerate_steps (iter_steps {A = ℕ})) (λ p. (p.0, p.1.now)) c.enumerate.result (enumerate_from 0 text) = YieldsList-from_enumerate (YieldsList-from_slice text (search rules)) (search rules) in
    let e : c.fold.result ≡ fold (λ s p. step p.0 s p.1) Between (enumerate_from 0 text) = fold_from_yields_List {s = c.enumerate.result} _ (λ (s : State) (p : ℕ × ℕ). step p.0 s p.1) Between c.fold.result c.fold.ensures.ran y (λ a x b q h. (search rules, search rules)) in
    e ∙ run_fold 0 Between text
