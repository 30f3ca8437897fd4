-- Eleven bytes of a name tell whether it serves.
use Rattle.std.proofs.Common.{◌≡◌, ℕ, ◌-◌, ◌≤◌, ◌<◌, ◌⊎◌, inl, inr, ◌&&◌, Bool, true, false, cond, nat_le, List, ◌++◌, Option, Some, None, length, take, replicate, refl, sym, ap, ◌∙◌, arith, length-take}
use Rattle.std.proofs.lemmas.List.{take_all}
use Rattle.std.proofs.lemmas.Bool.Decides.{nat_tests}
use Rattle.std.specs.Option.{option_and_then, option_map}
use Rattle.lif_dir.specs.Entries.{spaced}
use Rattle.lif_dir.specs.Names.{is_made, name_of_bytes, new_name, new_label}
use Rattle.il_script.specs.Commands.{new_name_of_bytes}

-- a rule that refuses whatever has more than ten bytes
rule-front : {X : Type 0} (rule : List ℕ → Option X) → ((bytes : List ℕ) → 10 < length bytes → rule bytes ≡ None) → (bytes : List ℕ) → rule (take 11 bytes) ≡ rule bytes
rule-front rule refuses bytes = elim (few-or-many (length bytes)) [
  | inl few ↦ ap rule (take_all 11 bytes few)
  | inr many ↦ refuses (take 11 bytes) (omega (arith, length-take 11 bytes)) ∙ sym (refuses bytes (omega arith))
]
  where
    few-or-many : (n : ℕ) → (n ≤ 11) ⊎ (11 < n)
    few-or-many n = grind arith

is-over : (n most : ℕ) → most < n → nat_le n most ≡ false
is-over n most h = grind (arith, nat_tests)

and-false : {X : Type 0} (a b : Bool) (x : X) → b ≡ false → cond (a && b) (Some x) None ≡ None
and-false true true x h = cc
and-false true false x h = refl
and-false false b x h = refl

long-name : (bytes : List ℕ) → 10 < length bytes → name_of_bytes bytes ≡ None
long-name bytes h = and-false (nat_le 1 (length bytes)) (nat_le (length bytes) 10) (record { bytes = spaced bytes }) (is-over (length bytes) 10 h)

long-label : (bytes : List ℕ) → 10 < length bytes → new_label bytes ≡ None
long-label bytes h = and-false (is_made bytes) (nat_le (length bytes) 6) (record { bytes = bytes ++ replicate (6 - length bytes) 32 }) (is-over (length bytes) 6 (omega arith))

pub name-front : (bytes : List ℕ) → name_of_bytes (take 11 bytes) ≡ name_of_bytes bytes
name-front bytes = rule-front name_of_bytes long-name bytes

pub new-name-front : (bytes : List ℕ) → new_name_of_bytes (take 11 bytes) ≡ new_name_of_bytes bytes
new-name-front bytes = ap (option_and_then new_name) (name-front bytes)

pub label-front : (bytes : List ℕ) → new_label (take 11 bytes) ≡ new_label bytes
label-front bytes = rule-front new_label long-label bytes

-- ---- a rule on what a spelling stands for

pub none-spelt : {X : Type 0} (rule : List ℕ → Option X) (spelling : Option (List ℕ)) → None ≡ option_map (λ bytes. take 11 bytes) spelling → None ≡ option_map rule spelling
none-spelt rule None h = refl
none-spelt rule (Some bytes) h = cc

pub some-spelt : {X : Type 0} (rule : List ℕ → Option X) (spelling : Option (List ℕ)) (kept : List ℕ) → ((bytes : List ℕ) → rule (take 11 bytes) ≡ rule bytes)
    → Some kept ≡ option_map (λ bytes. take 11 bytes) spelling → Some (rule kept) ≡ option_map rule spelling
some-spelt rule None kept front h = cc
some-spelt rule (Some bytes) kept front h = let is : kept ≡ take 11 bytes = cc in ap Some (ap rule is ∙ front bytes)
