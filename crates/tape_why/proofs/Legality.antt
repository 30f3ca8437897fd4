-- A directory has no defect if and only if it is legal.
use Rattle.std.proofs.Common.{◌≡◌, ◌==◌, ◌&&◌, ◌||◌, ◌∙◌, ◌≤◌, ℕ, zero, suc, nat_lt, nat_le, Bool, true, false, not, if◌then◌else◌, List, [], ◌∷◌, Option, Some, None, option_map, is_some, inl, inr, ap, sym, refl, arith}
use Rattle.std.specs.List.{list_all}
use Rattle.std.proofs.Math.Path.{fun_ext}
use Rattle.std.proofs.Math.Dec.{eqb-suc-zero}
use Rattle.std.proofs.lemmas.Bool.{cases_lt, lt-ltb, le-ltb, le-leb, lt-leb}
use Rattle.lif_model.specs.Gate.{gate_of}
use Rattle.lif_model.specs.Header.{directory_end, directory_length, directory_start, is_marked, is_readable}
use Rattle.lif_model.specs.Numbers.{two_at}
use Rattle.lif_model.specs.Pairs.{all_pairs}
use Rattle.lif_model.specs.Legal.{are_apart, have_other_names, is_legal_with, is_live, lies_between, occupies}
use Rattle.lif_model.specs.Plain.{is_in_place, go_together}
use Rattle.lif_model.proofs.Plain.{legal_by_slots}
use Rattle.lif_header.specs.Reading.{IsFault}
use Rattle.lif_header.specs.declared.header.HeaderFault.{HeaderFault}
use Rattle.lif_header.specs.declared.header.HeaderFault.TheVariants as fault
use Rattle.tape_why.specs.declared.defects.Defect.{Defect}
use Rattle.tape_why.specs.declared.defects.Defect.TheVariants as defect
use Rattle.tape_why.specs.Defects.{or_else, header_fault, lies_outside, share_records, share_name, place_from, clash_from, slots_defect, defect_of}

-- ---- options

abbrev is_none : {T : Type 0} → Option T → Bool
is_none o = not (is_some o)

none_or : {T : Type 0} (a b : Option T) → is_none (or_else a b) ≡ (is_none a && is_none b)
none_or None b = refl
none_or (Some a) b = refl

none_mapped : {T U : Type 0} (f : T → U) (o : Option T) → is_none (option_map f o) ≡ is_none o
none_mapped f None = refl
none_mapped f (Some t) = refl

none_is : {T : Type 0} (o : Option T) → is_none o ≡ true → o ≡ None
none_is None on = refl
none_is (Some t) on = cc

not_false : (b : Bool) → not b ≡ false → b ≡ true
not_false true off = refl
not_false false off = cc

-- ---- searches that find nothing

no_place : (holds : List ℕ → Bool) (k : ℕ) (slots : List (List ℕ)) → is_none (place_from holds k slots) ≡ list_all (λ slot. not (holds slot)) slots
no_place holds k [] = refl
no_place holds k (slot ∷ slots) = go (holds slot) (no_place holds (suc k) slots)
  where
    go : (b : Bool) → is_none (place_from holds (suc k) slots) ≡ list_all (λ s. not (holds s)) slots
        → is_none (if b then Some k else place_from holds (suc k) slots) ≡ (not b && list_all (λ s. not (holds s)) slots)
    go true rest = refl
    go false rest = rest

no_clash : (clash : List ℕ → List ℕ → Bool) (k : ℕ) (slots : List (List ℕ)) → is_none (clash_from clash k slots) ≡ all_pairs (λ a b. not (clash a b)) slots
no_clash clash k [] = refl
no_clash clash k (slot ∷ slots) =
    none_or (option_map (λ j. (k, j)) (place_from (clash slot) (suc k) slots)) (clash_from clash (suc k) slots)
    ∙ (λ i. (none_mapped {U = ℕ × ℕ} (λ (j : ℕ). (k, j)) (place_from (clash slot) (suc k) slots) ∙ no_place (clash slot) (suc k) slots) i && no_clash clash (suc k) slots i)

-- ---- one slot and two slots

outside_is : (low high : ℕ) (slot : List ℕ) → not (occupies slot && not (lies_between low high slot)) ≡ is_in_place low high slot
outside_is low high slot = go (occupies slot) (lies_between low high slot)
  where
    go : (a b : Bool) → not (a && not b) ≡ (not a || b)
    go true true = refl
    go true false = refl
    go false b = refl

together_is : (a b : List ℕ) → go_together a b ≡ (not (share_records a b) && not (share_name a b))
together_is a b = λ i. go (occupies a) (occupies b) (are_apart a b) i && go (is_live a) (is_live b) (have_other_names a b) i
  where
    go : (x y z : Bool) → (not (x && y) || z) ≡ not (x && (y && not z))
    go true true true = refl
    go true true false = refl
    go true false z = refl
    go false y z = refl

swap_and : (a b c d : Bool) → ((a && b) && (c && d)) ≡ ((a && c) && (b && d))
swap_and true true c d = refl
swap_and true false true d = refl
swap_and true false false d = refl
swap_and false b c d = refl

module _ {X : Type 0} where
  all_both : (f g : X → Bool) (xs : List X) → list_all (λ x. f x && g x) xs ≡ (list_all f xs && list_all g xs)
  all_both f g [] = refl
  all_both f g (x ∷ xs) = ap (λ (b : Bool). (f x && g x) && b) (all_both f g xs) ∙ swap_and (f x) (g x) (list_all f xs) (list_all g xs)

  pairs_both : (f g : X → X → Bool) (xs : List X) → all_pairs (λ a b. f a b && g a b) xs ≡ (all_pairs f xs && all_pairs g xs)
  pairs_both f g [] = refl
  pairs_both f g (x ∷ xs) = (λ i. all_both (f x) (g x) xs i && pairs_both f g xs i) ∙ swap_and (list_all (f x) xs) (list_all (g x) xs) (all_pairs f xs) (all_pairs g xs)

-- ---- record 0

not_zero : (n : ℕ) → not (n == 0) ≡ nat_lt 0 n
not_zero zero = refl
not_zero (suc n) = ap not (eqb-suc-zero n) ∙ sym (lt-ltb 0 (suc n) (omega arith))

fault_none : (marked start length past : Bool) (one two three four : HeaderFault)
    → is_none (if not marked then Some one else if start then Some two else if length then Some three else if past then Some four else None)
    ≡ (marked && (not start && (not length && not past)))
fault_none false start length past one two three four = refl
fault_none true true length past one two three four = refl
fault_none true false true past one two three four = refl
fault_none true false false true one two three four = refl
fault_none true false false false one two three four = refl

not_past : (a b : ℕ) → not (nat_lt a b) ≡ nat_le b a
not_past a b = elim (cases_lt a b) [
  | inl lt ↦ ap not (lt-ltb a b lt) ∙ sym (lt-leb b a lt)
  | inr le ↦ ap not (le-ltb a b le) ∙ sym (le-leb b a le)
]

module _ (n : ℕ) (header : List ℕ) where
  pub readable_is : is_none (header_fault n header) ≡ is_readable n header
  readable_is =
      fault_none (is_marked header) (directory_start header == 0) (directory_length header == 0) (nat_lt (gate_of n) (directory_end header)) (fault.Id (two_at header 0)) (fault.Start 0)
      (fault.Length 0) (fault.Past (directory_end header))
      ∙ (λ i. is_marked header && (not_zero (directory_start header) i && (not_zero (directory_length header) i && not_past (gate_of n) (directory_end header) i)))

  pub no_fault : is_readable n header ≡ true → header_fault n header ≡ None
  no_fault on = none_is (header_fault n header) (readable_is ∙ on)

-- ---- a directory

module _ (n : ℕ) (header : List ℕ) (slots : List (List ℕ)) where
  slots_none : is_none (slots_defect n header slots) ≡ (list_all (is_in_place (directory_end header) n) slots && all_pairs go_together slots)
  slots_none =
      none_or (option_map defect.Outside (place_from (lies_outside n header) 0 slots)) _
      ∙ (λ i. (none_mapped defect.Outside (place_from (lies_outside n header) 0 slots) ∙ no_place (lies_outside n header) 0 slots
      ∙ ap (λ (test : List ℕ → Bool). list_all test slots) (fun_ext (outside_is (directory_end header) n))) i
      && (none_or (option_map (λ (p : ℕ × ℕ). defect.SharedRecords p.0 p.1) (clash_from share_records 0 slots)) (option_map (λ (p : ℕ × ℕ). defect.SharedName p.0 p.1) (clash_from share_name 0 slots))
      ∙ (λ j. (none_mapped (λ (p : ℕ × ℕ). defect.SharedRecords p.0 p.1) (clash_from share_records 0 slots) ∙ no_clash share_records 0 slots) j
      && (none_mapped (λ (p : ℕ × ℕ). defect.SharedName p.0 p.1) (clash_from share_name 0 slots) ∙ no_clash share_name 0 slots) j)
      ∙ sym (pairs_both (λ a b. not (share_records a b)) (λ a b. not (share_name a b)) slots)
      ∙ ap (λ (test : List ℕ → List ℕ → Bool). all_pairs test slots) (sym (fun_ext (λ a. fun_ext (together_is a))))) i)

  defect_none : is_none (defect_of n header slots) ≡ is_legal_with n header slots
  defect_none =
      none_or (option_map defect.Header (header_fault n header)) (slots_defect n header slots)
      ∙ (λ i. (none_mapped defect.Header (header_fault n header) ∙ readable_is n header) i && slots_none i)
      ∙ sym (legal_by_slots n header slots)

  pub legal_has_none : is_legal_with n header slots ≡ true → defect_of n header slots ≡ None
  legal_has_none legal = none_is (defect_of n header slots) (defect_none ∙ legal)

  pub none_is_legal : defect_of n header slots ≡ None → is_legal_with n header slots ≡ true
  none_is_legal none = sym defect_none ∙ ap (λ (o : Option Defect). is_none o) none

  -- so a volume that cannot be listed has a defect to name
  pub illegal_has_one : is_legal_with n header slots ≡ false → is_some (defect_of n header slots) ≡ true
  illegal_has_one off = not_false (is_some (defect_of n header slots)) (defect_none ∙ off)

  -- a header that is readable has the defects of the slots
  pub slots_alone : is_readable n header ≡ true → defect_of n header slots ≡ slots_defect n header slots
  slots_alone on = ap (λ (o : Option HeaderFault). or_else (option_map defect.Header o) (slots_defect n header slots)) (no_fault n header on)

-- ---- the fault that was found

zero_off : (k : ℕ) → 1 ≤ k → (k == 0) ≡ false
zero_off zero le = absurd (omega (arith, le))
zero_off (suc k) le = eqb-suc-zero k

module _ (n : ℕ) (header : List ℕ) where
  pub found_fault : (f : HeaderFault) → IsFault n header f → header_fault n header ≡ Some f
  found_fault (fault.Id mark) is = simp is.1 (ap (λ (m : ℕ). Some (fault.Id m)) (sym is.0))
  found_fault (fault.Start start) is = simp (is.1, sym is.0 ∙ is.2) (ap (λ (m : ℕ). Some (fault.Start m)) (sym is.2))
  found_fault (fault.Length count) is = simp (is.1, zero_off (directory_start header) is.2, sym is.0 ∙ is.3) (ap (λ (m : ℕ). Some (fault.Length m)) (sym is.3))
  found_fault (fault.Past end) is =
      simp (is.1, zero_off (directory_start header) is.2, zero_off (directory_length header) is.3, lt-ltb (gate_of n) (directory_end header) (omega (arith, is.4, is.0)))
      (ap (λ (m : ℕ). Some (fault.Past m)) (sym is.0))

  pub fault_is_unreadable : (f : HeaderFault) → IsFault n header f → is_readable n header ≡ false
  fault_is_unreadable f is = sym (readable_is n header) ∙ ap (λ (o : Option HeaderFault). is_none o) (found_fault f is)
