-- Records outside a range that stay.
use Rattle.std.proofs.Common.{◌∙◌, ◌⊎◌, ◌<◌, ◌≤◌, ◌+◌, inl, inr, ℕ, refl, sym, subst, arith}
use Rattle.lif_model.specs.Tape.{Tape}
use Rattle.lif_model.specs.declared.version.Version.TheVariants.{Two}
use Rattle.lif_model.specs.Redo.{redo_start}
use Rattle.lif_model.specs.Finished.{StaysOutside}
use Rattle.lif_pack.specs.declared.marks.Move.{Move}
use Rattle.lif_pack.specs.Moving.{HasMoved}

pub outside_same : (first until : ℕ) (t : Tape) → StaysOutside first until t t
outside_same first until t = record { records = refl; same = λ k lt out. refl }

further : (first near far : ℕ) (k : ℕ) → near ≤ far → (k < first) ⊎ (far ≤ k) → (k < first) ⊎ (near ≤ k)
further first near far k le (inl a) = inl a
further first near far k le (inr b) = inr (omega (arith, le, b))

pub outside_then : (first near far : ℕ) (t x y : Tape) → near ≤ far → StaysOutside first near t x → StaysOutside first far x y → StaysOutside first far t y
outside_then first near far t x y le was now = record {
  records = now.records ∙ was.records;
  same = λ k lt out. now.same k (subst (λ (m : ℕ). k < redo_start Two m) (sym was.records) lt) out ∙ was.same k lt (further first near far k le out);
}

pub outside_wider : (first near far : ℕ) (t x : Tape) → near ≤ far → StaysOutside first near t x → StaysOutside first far t x
outside_wider first near far t x le was = record { records = was.records; same = λ k lt out. was.same k lt (further first near far k le out) }

-- a file that moved
pub outside_moved : (first redo : ℕ) (move : Move) (t x : Tape) → first ≤ move.place → HasMoved first move.place redo move t x → StaysOutside first (move.place + move.length) t x
outside_moved first redo move t x low moved = record {
  records = moved.records;
  same = λ k lt out. moved.others k lt (beside k out) (beyond k out);
}
  where
    beside : (k : ℕ) → (k < first) ⊎ (move.place + move.length ≤ k) → (k < first) ⊎ (move.place ≤ k)
    beside k (inl a) = inl a
    beside k (inr b) = inr (omega (arith, b))

    beyond : (k : ℕ) → (k < first) ⊎ (move.place + move.length ≤ k) → (k < move.place + move.moved) ⊎ (move.place + move.length ≤ k)
    beyond k (inl a) = inl (omega (arith, a, low))
    beyond k (inr b) = inr b
