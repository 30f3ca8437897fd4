-- The lines of the statuses that a log tells, one address after the other.
use Rattle.std.proofs.Common.{◌≡◌, ◌+◌, ◌==◌, ◌∙◌, ◌++◌, ℕ, zero, suc, Bool, true, false, List, [], ◌∷◌, Option, Some, if◌then◌else◌, refl, sym, ap, append_assoc, append-nil, flat_map, arith}
use Rattle.std.proofs.lemmas.Bool.{eq-eqb, ne_eqb}
use Rattle.std.proofs.lemmas.Grind.{flat_map-append}
use Rattle.il_frames.specs.declared.entry.Entry.{Entry}
use Rattle.il_device.specs.Roles.{is_own}
use Rattle.il_guest.specs.Rounds.{addresses_from}
use Rattle.il_ring.specs.Statuses.{last_known}
use Rattle.host_model.specs.Replies.{guest_line, guest_lines}

-- ---- one line after the other

-- the address after the others is asked too, unless it is the own one
pub addresses_more : (own : Option ℕ) (a n : ℕ) → addresses_from own a (suc n) ≡ addresses_from own a n ++ (if is_own own (a + n) then [] else (a + n) ∷ [])
addresses_more own a zero = ap (λ (b : ℕ). if is_own own b then [] else b ∷ []) (omega arith)
addresses_more own a (suc n) =
    let same : suc a + n ≡ a + suc n = omega arith in
    by (is_own own a) (addresses_from own (suc a) (suc n)) (addresses_from own (suc a) n) (behind (suc a + n)) (addresses_more own (suc a) n)
    ∙ ap (λ (b : ℕ). addresses_from own a (suc n) ++ behind b) same
  where
    behind : ℕ → List ℕ
    behind b = if is_own own b then [] else b ∷ []

    by : (own_one : Bool) (all front last : List ℕ) → all ≡ front ++ last → (if own_one then all else a ∷ all) ≡ (if own_one then front else a ∷ front) ++ last
    by true all front last rest = rest
    by false all front last rest = ap (λ more. a ∷ more) rest

module _ (own : ℕ) (log : List Entry) where
  -- the lines of the addresses up to the n-th
  abbrev pub lines_to : ℕ → List ℕ
  lines_to n = guest_lines own log (addresses_from (Some own) 1 n)

  abbrev line_of : ℕ → List ℕ
  line_of a = guest_line a (last_known own a log)

  lines_more : (n : ℕ) → lines_to (suc n) ≡ lines_to n ++ (if own == suc n then [] else line_of (suc n))
  lines_more n =
      let next : 1 + n ≡ suc n = omega arith in
      ap (guest_lines own log) (addresses_more (Some own) 1 n ∙ ap (λ (b : ℕ). addresses_from (Some own) 1 n ++ (if own == b then [] else b ∷ [])) next)
      ∙ flat_map-append line_of (addresses_from (Some own) 1 n) (if own == suc n then [] else suc n ∷ [])
      ∙ ap (λ more. lines_to n ++ more) (by (own == suc n))
    where
      by : (own_one : Bool) → flat_map line_of (if own_one then [] else suc n ∷ []) ≡ (if own_one then [] else line_of (suc n))
      by true = refl
      by false = append-nil (line_of (suc n))

  -- the text with the line of one address more
  pub line_put : (n a : ℕ) (first text now : List ℕ) → a ≡ n + 1 → (a ≡ own → ⊥) → text ≡ first ++ lines_to n → now ≡ text ++ line_of a → now ≡ first ++ lines_to a
  line_put n a first text now is other before put =
      let next : a ≡ suc n = omega (arith, is) in
      let none : (own == suc n) ≡ false = ne_eqb own (suc n) (λ same. other (next ∙ sym same)) in
      let more : lines_to a ≡ lines_to n ++ line_of a =
      ap lines_to next ∙ lines_more n ∙ ap (λ own_one. lines_to n ++ (if own_one then [] else line_of (suc n))) none ∙ ap (λ a. lines_to n ++ line_of a) (sym next) in
      put ∙ ap (λ text. text ++ line_of a) before ∙ append_assoc first (lines_to n) (line_of a) ∙ ap (λ more. first ++ more) (sym more)

  -- the own one has none
  pub line_left : (n a : ℕ) (first text : List ℕ) → a ≡ n + 1 → a ≡ own → text ≡ first ++ lines_to n → text ≡ first ++ lines_to a
  line_left n a first text is same before =
      let next : a ≡ suc n = omega (arith, is) in
      let mine : (own == suc n) ≡ true = eq-eqb own (suc n) (sym same ∙ next) in
      let more : lines_to a ≡ lines_to n =
      ap lines_to next ∙ lines_more n ∙ ap (λ own_one. lines_to n ++ (if own_one then [] else line_of (suc n))) mine ∙ append-nil (lines_to n) in
      before ∙ ap (λ more. first ++ more) (sym more)
