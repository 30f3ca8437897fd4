-- No frame is held at the end of a lend: an NRD of the host, which alone would leave one, is none of its entries.
use Rattle.std.proofs.Common.{◌≡◌, ◌∙◌, ◌++◌, ◌==◌, ◌&&◌, ℕ, Bool, true, false, not, List, [], ◌∷◌, Option, None, refl, ap}
use Rattle.std.specs.List.{list_all}
use Rattle.std.proofs.lemmas.Bool.{and_from, and_parts, not-true}
use Rattle.std.proofs.lemmas.List.Folds.{list_all-append}
use Rattle.il_frames.specs.declared.entry.Entry.{Entry}
use Rattle.il_frames.specs.NamedFrames.{ifc, is_frame, is_lost, is_lost_nrd, is_no_nrd, nrd}
use Rattle.loop_model.specs.Exchanges.{Answer, FrameLost, commanded, cut_at}
use Rattle.loop_model.specs.Reach.{held_at_end, sourcing_after}
use Rattle.il_ring.specs.Lends.{RoundsEnd, AtHost, Lend, NoTaker, NoTakerCut, Lent, LentCut, LentLost, are_rounds, ended_after, handed_entries, is_lend, lend_entries, refused_entries, rounds_entries}
use Rattle.il_ring.proofs.LendLaws.{are_lent, cut_all, is_entry_controlled, rounds_are_controlled}

-- the entry leaves no frame held
abbrev pub is_unheld : Entry → Bool
is_unheld e = not (is_lost_nrd e)

pub none_unheld : (before : Option ℕ) (log : List Entry) → list_all is_unheld log ≡ true → held_at_end before log ≡ None
none_unheld before [] all = refl
none_unheld before (e ∷ []) all = rw (not-true (is_lost_nrd e) (and_parts (is_unheld e) true all).0) refl
none_unheld before (e ∷ next ∷ log) all = none_unheld (sourcing_after before e) (next ∷ log) (and_parts (is_unheld e) _ all).1

unheld : (own nrds lost : Bool) → not nrds ≡ true → not (own && (nrds && lost)) ≡ true
unheld true true lost none = cc
unheld true false lost none = refl
unheld false nrds lost none = refl

-- whatever becomes of the frame, if it is no NRD
no_nrd_unheld : (es : List Entry) → list_all is_no_nrd es ≡ true → list_all is_unheld es ≡ true
no_nrd_unheld [] all = refl
no_nrd_unheld (e ∷ es) all =
    let parts = and_parts (is_no_nrd e) (list_all is_no_nrd es) all in
    and_from (is_unheld e) (list_all is_unheld es) (unheld (e.source == 0) (is_frame e.frame nrd) (is_lost e.outcome) parts.0) (no_nrd_unheld es parts.1)

cut_unheld : (es : List Entry) (n q : ℕ) → list_all is_no_nrd es ≡ true → list_all is_unheld (cut_at es n (FrameLost q)) ≡ true
cut_unheld es n q all = no_nrd_unheld (cut_at es n (FrameLost q)) (cut_all is_no_nrd (λ e q is. is) es n q all)

-- or if the host does not source it
others_unheld : (k : ℕ) (es : List Entry) → list_all (is_entry_controlled k) es ≡ true → list_all is_unheld es ≡ true
others_unheld k [] all = refl
others_unheld k (e ∷ es) all =
    let parts = and_parts (is_entry_controlled k e) (list_all (is_entry_controlled k) es) all in
    let other = not-true (e.source == 0) (and_parts _ (not (e.source == 0)) parts.0).1 in
    and_from (is_unheld e) (list_all is_unheld es) (ap (λ own. not (own && (is_frame e.frame nrd && is_lost e.outcome))) other) (others_unheld k es parts.1)

two : (xs ys : List Entry) → list_all is_unheld xs ≡ true → list_all is_unheld ys ≡ true → list_all is_unheld (xs ++ ys) ≡ true
two xs ys first second = list_all-append is_unheld xs ys ∙ and_from (list_all is_unheld xs) (list_all is_unheld ys) first second

module _ (k : ℕ) (guest : (k == 0) ≡ false) (asked : List ℕ) (limit : ℕ) where
  turn_unheld : (answers : List (List Answer)) (n : ℕ) (end : RoundsEnd) → are_rounds k asked answers n end ≡ true → list_all is_unheld (ended_after k (rounds_entries k asked answers) n end) ≡ true
  turn_unheld answers n end are =
      others_unheld k (ended_after k (rounds_entries k asked answers) n end) (rounds_are_controlled k guest asked answers n end are)

  pub lend_unheld : (lend : Lend) → is_lend k asked limit lend ≡ true → list_all is_unheld (lend_entries k asked lend) ≡ true
  lend_unheld (NoTaker a) is = refl
  lend_unheld (NoTakerCut a n q) is = cut_unheld (refused_entries a) n q refl
  lend_unheld (Lent a answers n) is =
      two (handed_entries a k) (ended_after k (rounds_entries k asked answers) n AtHost ++ commanded 0 ifc) refl
      (two (ended_after k (rounds_entries k asked answers) n AtHost) (commanded 0 ifc) (turn_unheld answers n AtHost (are_lent k asked limit (Lent a answers n) is)) refl)
  lend_unheld (LentCut a answers n end) is =
      two (handed_entries a k) (ended_after k (rounds_entries k asked answers) n end) refl (turn_unheld answers n end (are_lent k asked limit (LentCut a answers n end) is))
  lend_unheld (LentLost a answers n m q) is =
      two (handed_entries a k) (ended_after k (rounds_entries k asked answers) n AtHost ++ cut_at (commanded 0 ifc) m (FrameLost q)) refl
      (two (ended_after k (rounds_entries k asked answers) n AtHost) (cut_at (commanded 0 ifc) m (FrameLost q)) (turn_unheld answers n AtHost (are_lent k asked limit (LentLost a answers n m q) is)) (cut_unheld (commanded 0 ifc) m q refl))
