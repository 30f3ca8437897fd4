-- Tapes that settle to the same in all records except the gate.
use Rattle.std.proofs.Common.{◌≡◌, ◌≢◌, ◌∙◌, ◌&&◌, ℕ, Bool, true, false, List, length, refl, sym, ap, arith}
use Rattle.lif_model.specs.Tape.{Tape, record_at}
use Rattle.lif_model.specs.Gate.{gate_of}
use Rattle.lif_model.specs.Header.{is_readable}
use Rattle.lif_model.specs.Directory.{slots_of}
use Rattle.lif_model.specs.Redo.{settled}
use Rattle.lif_model.specs.Commit.{SettlesAs}
use Rattle.lif_model.specs.Legal.{is_legal, is_legal_with}
use Rattle.lif_model.specs.Volume.{files_of, volume_if, volume_in, volume_of}
use Rattle.lif_model.specs.Packing.{bears_mark, has_mark}
use Rattle.lif_model.proofs.Redo.{length_settled}
use Rattle.lif_model.proofs.Slots.{readable_tells}
use Rattle.lif_model.proofs.Volume.{slots_agree}

pub settles_on : (x y z : Tape) → SettlesAs (settled x) y → SettlesAs (settled y) z → SettlesAs (settled x) z
settles_on x y z first last = record {
  records = last.records ∙ size;
  same = λ k off. last.same k (λ e. off (e ∙ ap gate_of size)) ∙ first.same k off;
}
  where
    size : length (settled y) ≡ length (settled x)
    size = length_settled y ∙ first.records

-- ---- the mark

marked_alike : (n : ℕ) (u w : Tape) (legal : Bool) → slots_of w ≡ slots_of u → has_mark n (volume_if legal w) ≡ has_mark n (volume_if legal u)
marked_alike n u w false slots = refl
marked_alike n u w true slots = ap (λ (s : List (List ℕ)). bears_mark n (record { header = record_at w 0; slots = s; files = files_of w s })) slots

-- If record 0 of w is readable, the gate is neither record 0 nor in the directory. If not, w has no volume. So w needs no
-- least length.
unmarked_alike : (n : ℕ) (u w : Tape) → length w ≡ length u → ((k : ℕ) → k ≢ gate_of (length u) → record_at w k ≡ record_at u k) → has_mark n (volume_in u) ≡ false → has_mark n (volume_in w) ≡ false
unmarked_alike n u w size same clear = go (is_readable (length w) (record_at w 0)) refl
  where
    and_first : (a b : Bool) → a ≡ false → (a && b) ≡ false
    and_first a b is = ap (λ (c : Bool). c && b) is

    go : (b : Bool) → is_readable (length w) (record_at w 0) ≡ b → has_mark n (volume_in w) ≡ false
    go false e = let off : is_legal w ≡ false = and_first _ _ e in ap (λ (legal : Bool). has_mark n (volume_if legal w)) off
    go true e =
        let readable = readable_tells (length w) (record_at w 0) e in
        let header : record_at w 0 ≡ record_at u 0 = same 0 (λ is. absurd (omega (arith, is, ap gate_of size, readable.0, readable.2))) in
        let slots : slots_of w ≡ slots_of u = sym (slots_agree u w (sym header) (λ k le lt. sym (same k (λ is. absurd (omega (arith, is, lt, ap gate_of size, readable.2)))))) in
        let legal : is_legal w ≡ is_legal u = λ i. is_legal_with (size i) (header i) (slots i) in
        ap (λ (b : Bool). has_mark n (volume_if b w)) legal ∙ marked_alike n u w (is_legal u) slots ∙ clear

-- a tape that settles as one without a mark has none
pub unmarked_on : (n : ℕ) (x y : Tape) → SettlesAs (settled x) y → has_mark n (volume_of x) ≡ false → has_mark n (volume_of y) ≡ false
unmarked_on n x y settles clear = unmarked_alike n (settled x) (settled y) (length_settled y ∙ settles.records) settles.same clear
