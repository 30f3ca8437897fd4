-- The label of a tape, by the header of the settled one.
use Rattle.std.proofs.Common.{◌≡◌, ◌∙◌, ℕ, Bool, true, false, List, Some, None, ap, sym}
use Rattle.std.specs.Prelude.{option_map}
use Rattle.lif_model.specs.Header.{label_of}
use Rattle.lif_model.specs.Legal.{is_legal}
use Rattle.lif_model.specs.Redo.{settled}
use Rattle.lif_model.specs.Tape.{Tape, record_at}
use Rattle.lif_model.specs.Volume.{volume_if}
use Rattle.il_check.specs.Telling.{label_on}

pub labelled : (t : Tape) (label : List ℕ) → is_legal (settled t) ≡ true → label ≡ label_of (record_at (settled t) 0) → Some label ≡ label_on t
labelled t label legal is = ap (λ (l : List ℕ). Some l) is ∙ ap (λ (b : Bool). option_map (λ v. label_of v.header) (volume_if b (settled t))) (sym legal)

pub unlabelled : (t : Tape) → is_legal (settled t) ≡ false → None ≡ label_on t
unlabelled t legal = ap (λ (b : Bool). option_map (λ v. label_of v.header) (volume_if b (settled t))) (sym legal)
