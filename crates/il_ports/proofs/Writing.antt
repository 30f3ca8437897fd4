-- Known bytes that grow.
use Rattle.std.proofs.Common.{◌≡◌, ℕ, ◌+◌, ◌-◌, List, ◌++◌, Option, Some, None, length, take, drop, sym, ap, ◌∙◌, append_assoc, length-drop}
use Rattle.std.proofs.Math.Seq.{take-add, take-length}
use Rattle.std.specs.Io.KnownBytes.{Appends}

pub appends-trans : (a b c : Option (List ℕ)) (xs ys : List ℕ) → Appends a b xs → Appends b c ys → Appends a c (xs ++ ys)
appends-trans None b c xs ys h k = tt
appends-trans (Some a) None c xs ys h k = absurd h
appends-trans (Some a) (Some b) None xs ys h k = absurd k
appends-trans (Some a) (Some b) (Some c) xs ys h k = k ∙ ap (λ l. l ++ ys) h ∙ append_assoc a xs ys

pub take-piece : (bytes : List ℕ) (from n : ℕ) → take (from + n) bytes ≡ take from bytes ++ take n (take (length bytes - from) (drop from bytes))
take-piece bytes from n =
    take-add from n bytes ∙ ap (λ l. take from bytes ++ take n l) (sym (ap (λ k. take k (drop from bytes)) (sym (length-drop from bytes)) ∙ take-length (drop from bytes)))
