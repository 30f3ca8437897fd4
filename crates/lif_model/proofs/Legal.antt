-- The test for a legal directory, slot by slot.
use Rattle.std.proofs.Common.{◌≡◌, ◌≢◌, ◌⊎◌, ◌≤◌, ℕ, List, [], true, false, get_or, inl, inr, sym, ◌∙◌, filter}
use Rattle.std.specs.List.{list_all}
use Rattle.std.proofs.lemmas.Bool.{and_parts, and_from, or_left, or_right, or_cases, leb-true, le-leb, not-true, not_from_false, false_from_ne_true}
use Rattle.std.proofs.lemmas.Slice.Eq.{bytes_eq-Decides}
use Rattle.lif_model.specs.Header.{directory_end, is_readable}
use Rattle.lif_model.specs.Directory.{name_of, start_of}
use Rattle.lif_model.specs.Pairs.{all_pairs}
use Rattle.lif_model.specs.Legal.{is_live, end_of, occupies, lies_between, are_apart, have_other_names, is_legal_with, IsLegal}
use Rattle.lif_model.proofs.Lists.{filter_all_tells, filter_pairs_tell}

-- ---- the tests of one and of two slots

pub lies_tells : (low high : ℕ) (slot : List ℕ) → lies_between low high slot ≡ true → (low ≤ start_of slot) × (end_of slot ≤ high)
lies_tells low high slot is = let parts = and_parts _ _ is in (leb-true low (start_of slot) parts.0, leb-true (end_of slot) high parts.1)

pub lies_from : (low high : ℕ) (slot : List ℕ) → low ≤ start_of slot → end_of slot ≤ high → lies_between low high slot ≡ true
lies_from low high slot above below = and_from _ _ (le-leb low (start_of slot) above) (le-leb (end_of slot) high below)

pub apart_tells : (a b : List ℕ) → are_apart a b ≡ true → (end_of a ≤ start_of b) ⊎ (end_of b ≤ start_of a)
apart_tells a b is = elim (or_cases _ _ is) [ inl e ↦ inl (leb-true (end_of a) (start_of b) e) | inr e ↦ inr (leb-true (end_of b) (start_of a) e) ]

pub apart_from : (a b : List ℕ) → (end_of a ≤ start_of b) ⊎ (end_of b ≤ start_of a) → are_apart a b ≡ true
apart_from a b (inl le) = or_left _ _ (le-leb (end_of a) (start_of b) le)
apart_from a b (inr le) = or_right _ _ (le-leb (end_of b) (start_of a) le)

pub names_tell : (a b : List ℕ) → have_other_names a b ≡ true → name_of a ≢ name_of b
names_tell a b is same = let both : true ≡ false = sym ((bytes_eq-Decides (name_of a) (name_of b)).1 same) ∙ not-true _ is in cc

pub names_from : (a b : List ℕ) → name_of a ≢ name_of b → have_other_names a b ≡ true
names_from a b other = not_from_false _ (false_from_ne_true _ (λ e. other ((bytes_eq-Decides (name_of a) (name_of b)).0 e)))

-- ---- the test of a directory

module _ (n : ℕ) (header : List ℕ) (slots : List (List ℕ)) where
  pub legal_tells : is_legal_with n header slots ≡ true → IsLegal n header slots
  legal_tells is =
      let first = and_parts (is_readable n header) _ is in
      let second = and_parts (list_all (lies_between (directory_end header) n) (filter occupies slots)) _ first.1 in
      let third = and_parts (all_pairs are_apart (filter occupies slots)) _ second.1 in
      record {
        readable = first.0;
        within = λ i lt on. lies_tells (directory_end header) n (get_or slots i []) ((filter_all_tells [] occupies (lies_between (directory_end header) n) slots).0 second.0 i lt on);
        apart = λ i j lt long a b. apart_tells _ _ ((filter_pairs_tell [] occupies are_apart slots).0 third.0 i j lt long a b);
        distinct = λ i j lt long a b. names_tell _ _ ((filter_pairs_tell [] is_live have_other_names slots).0 third.1 i j lt long a b);
      }

  pub legal_from : IsLegal n header slots → is_legal_with n header slots ≡ true
  legal_from is = and_from (is_readable n header) _ is.readable
      (and_from (list_all (lies_between (directory_end header) n) (filter occupies slots)) _
      ((filter_all_tells [] occupies (lies_between (directory_end header) n) slots).1 (λ i lt on. let both = is.within i lt on in lies_from (directory_end header) n (get_or slots i []) both.0 both.1))
      (and_from (all_pairs are_apart (filter occupies slots)) _
      ((filter_pairs_tell [] occupies are_apart slots).1 (λ i j lt long a b. apart_from _ _ (is.apart i j lt long a b)))
      ((filter_pairs_tell [] is_live have_other_names slots).1 (λ i j lt long a b. names_from _ _ (is.distinct i j lt long a b)))))
