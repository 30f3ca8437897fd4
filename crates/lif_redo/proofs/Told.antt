-- A tape that is told, over calls.
use Rattle.std.proofs.Common.{◌≡◌, ◌∙◌, ℕ, List, set, true, false, refl, sym, ap}
use Rattle.std.specs.Prelude.{Option, Some, None, is_some}
use Rattle.lif_model.specs.Tape.{Tape}

-- what is told after a call was told before it
pub was_told : (old new : Option Tape) → is_some new ≡ is_some old → (u : Tape) → new ≡ Some u → (t : Tape) × (old ≡ Some t)
was_told (Some t) new same u is = (t, refl)
was_told None new same u is = let e : true ≡ false = sym (ap (λ (o : Option Tape). is_some o) is) ∙ same in cc

-- what was told before a call is told after it
pub still_told : (old new : Option Tape) → is_some new ≡ is_some old → (t : Tape) → old ≡ Some t → (u : Tape) × (new ≡ Some u)
still_told old new same t is = was_told new old (sym same) t is

pub same_tape : (tape : Option Tape) (t u : Tape) → tape ≡ Some t → tape ≡ Some u → t ≡ u
same_tape tape t u a b = cc

-- a write at an equal place, of equal bytes
pub written : (tape : Option Tape) (t : Tape) (n m : ℕ) (xs ys : List ℕ) → tape ≡ Some (set t n xs) → n ≡ m → xs ≡ ys → tape ≡ Some (set t m ys)
written tape t n m xs ys is place bytes = is ∙ ap (λ (k : ℕ). Some (set t k xs)) place ∙ ap (λ (zs : List ℕ). Some (set t m zs)) bytes
