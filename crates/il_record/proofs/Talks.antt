-- Exchanges one after the other.
use Rattle.std.proofs.Common.{◌≡◌, ◌≢◌, ◌∙◌, ◌++◌, ℕ, Bool, true, false, List, [], ◌∷◌, Option, None, ◌+◌, length, refl, sym, ap, ap₂, subst, append-nil}
use Rattle.std.specs.Prelude.{MatchBool}
use Rattle.std.specs.List.{list_all}
use Rattle.std.proofs.lemmas.Bool.{and_from}
use Rattle.std.proofs.lemmas.Grind.{flat_map-append}
use Rattle.std.proofs.lemmas.List.Folds.{list_all-append}
use Rattle.il_frames.specs.declared.entry.Entry.{Entry}
use Rattle.il_ports.specs.Media.{MediumView}
use Rattle.loop_model.specs.Effect.{ends_as}
use Rattle.loop_model.specs.Exchanges.{Exchange, Piece, Whole as WholeOne, Cut, is_exchange, is_piece, piece_entries, are_whole, entries_of, cut_at}
use Rattle.loop_model.specs.Loops.{Loop, host_loop}
use Rattle.loop_model.specs.Reach.{held_at_end, TellsHeld}
use Rattle.loop_model.proofs.ReachLaws.{held_at_end-append, held_at_end-whole, reading_tells, sourcing}
use Rattle.loop_model.specs.Roles.{OneTalker}
use Rattle.loop_model.proofs.RoleLaws.{OneTalker-append}
use Rattle.il_ring.specs.Rings.{RingView, devices_of, drive_party, roles_of}
use Rattle.il_ring.specs.Outcomes.{met_between}
use Rattle.il_ring.specs.Adds.{Adds}
use Rattle.il_ring.proofs.Adding.{adds_more}
use Rattle.il_control.specs.Calls.{IsFree, Made, BrokenOff, loop_of}
use Rattle.il_control.proofs.Calls.{met_parts}
use Rattle.il_record.specs.Talks.{Talked, all_entries}

-- ---- one

one_entries : (p : Piece) → piece_entries 0 p ≡ all_entries (p ∷ [])
one_entries p = sym (append-nil (piece_entries 0 p))

-- no frame is held where all is whole
pub none_held : (l : Loop) (k d : ℕ) (ps : List Piece) → l ≡ host_loop k d → list_all (is_piece l) ps ≡ true → are_whole ps ≡ true → held_at_end None (all_entries ps) ≡ None
none_held l k d ps is legal whole = held_at_end-whole k d (all_entries ps) (record { reading = record { pieces = ps; legal = ap (λ l. list_all (is_piece l) ps) (sym is) ∙ legal; entries = refl }; whole = whole })

pub made_talked : {M : Type 0} (view : M → MediumView) (x : Exchange) (r s : RingView M) → Made view x r s → Talked view true (WholeOne x ∷ []) r s
made_talked view x r s made =
    let entries = one_entries (WholeOne x) in
    let legal = and_from (is_piece (loop_of r) (WholeOne x)) true made.legal refl in
    record {
      legal = legal;
      ends = refl;
      adds = subst (λ held. Adds view r None (all_entries (WholeOne x ∷ [])) held s) (sym (none_held (loop_of r) _ _ (WholeOne x ∷ []) refl legal refl)) (subst (λ es. Adds view r None es None s) entries made.whole.adds);
      met = made.whole.met_none;
      one = subst (OneTalker (roles_of (devices_of r))) entries made.one;
      state = made.idle;
    }

pub broken_talked : {M : Type 0} (view : M → MediumView) (x : Exchange) (r s : RingView M) → (broken : BrokenOff view x r s) → Talked view false (Cut x broken.broke.standing broken.broke.break ∷ []) r s
broken_talked view x r s broken =
    let broke = broken.broke in
    let entries = one_entries (Cut x broke.standing broke.break) in
    record {
      legal = and_from (is_piece (loop_of r) (Cut x broke.standing broke.break)) true (and_from (is_exchange (loop_of r) x) _ broken.legal broke.legal) refl;
      ends = refl;
      adds = subst (λ es. Adds view r None es (held_at_end None es) s) entries (subst (λ held. Adds view r None (cut_at (entries_of 0 x) broke.standing broke.break) held s) broken.ended broke.adds);
      met = broke.met_some;
      one = subst (OneTalker (roles_of (devices_of r))) entries broken.one;
      state = broken.lost;
    }

-- ---- one after the other

ends_behind : (whole : Bool) (ps qs : List Piece) → are_whole ps ≡ true → ends_as whole qs ≡ true → ends_as whole (ps ++ qs) ≡ true
ends_behind whole [] qs first more = more
ends_behind whole (WholeOne x ∷ ps) qs first more = by whole (ends_behind whole ps qs first more)
  where
    by : (whole : Bool) → ends_as whole (ps ++ qs) ≡ true → ends_as whole (WholeOne x ∷ (ps ++ qs)) ≡ true
    by true e = e
    by false e = e
ends_behind whole (Cut x n b ∷ ps) qs first more = cc

pub same_loop : {M : Type 0} (view : M → MediumView) (r m : RingView M) (a b : Option ℕ) (xs : List Entry) → Adds view r a xs b m → loop_of m ≡ loop_of r
same_loop view r m a b xs adds = ap₂ (λ k q. host_loop k q) adds.size (ap (λ n. n + 1) adds.before)

-- after whole exchanges a frame is held where one is by these alone
held_then : (k d : ℕ) (ps qs : List Piece) → held_at_end None (all_entries ps) ≡ None → list_all (is_piece (host_loop k d)) qs ≡ true → held_at_end None (all_entries ps ++ all_entries qs) ≡ held_at_end None (all_entries qs)
held_then k d ps qs none legal = by (all_entries qs) (reading_tells k d (all_entries qs) (record { pieces = qs; legal = legal; entries = refl }))
  where
    by : (ys : List Entry) → TellsHeld ys → held_at_end None (all_entries ps ++ ys) ≡ held_at_end None ys
    by [] tells = ap (held_at_end None) (append-nil (all_entries ps)) ∙ none
    by (y ∷ ys) tells = held_at_end-append None (all_entries ps) y ys ∙ tells (sourcing None (all_entries ps))

pub talked_then : {M : Type 0} (view : M → MediumView) (whole : Bool) (ps qs : List Piece) (r m s : RingView M) → IsFree r → Talked view true ps r m → Talked view whole qs m s → Talked view whole (ps ++ qs) r s
talked_then view whole ps qs r m s free first more =
    let xs = all_entries ps in
    let ys = all_entries qs in
    let entries : xs ++ ys ≡ all_entries (ps ++ qs) = sym (flat_map-append (piece_entries 0) ps qs) in
    let none = none_held (loop_of r) _ _ ps refl first.legal first.ends in
    let before : Adds view r None xs None m = subst (λ held. Adds view r None xs held m) none first.adds in
    let split = met_parts view r m s None None None (held_at_end None ys) xs ys free.ring first.state.free.ring before more.adds in
    let loops = same_loop view r m None None xs before in
    let legal : list_all (is_piece (loop_of r)) qs ≡ true = ap (λ l. list_all (is_piece l) qs) (sym loops) ∙ more.legal in
    record {
      legal = list_all-append (is_piece (loop_of r)) ps qs ∙ and_from (list_all (is_piece (loop_of r)) ps) (list_all (is_piece (loop_of r)) qs) first.legal legal;
      ends = ends_behind whole ps qs first.ends more.ends;
      adds = subst (λ es. Adds view r None es (held_at_end None es) s) entries
          (subst (λ held. Adds view r None (xs ++ ys) held s) (sym (held_then (length (devices_of r)) (drive_party r) ps qs none legal)) (adds_more view r m s None None (held_at_end None ys) xs ys before more.adds));
      met = by whole first.met more.met split;
      one = subst (OneTalker (roles_of (devices_of r))) entries ((OneTalker-append (roles_of (devices_of r)) xs ys).1 (first.one, subst (λ rs. OneTalker rs ys) before.roles more.one));
      state = more.state;
    }
  where
    by : (whole : Bool) → met_between r m ≡ [] → MatchBool whole (met_between m s ≡ []) (met_between m s ≢ [])
        → (met_between r s ≡ [] → (met_between r m ≡ []) × (met_between m s ≡ [])) × (((met_between r m ≡ []) × (met_between m s ≡ [])) → met_between r s ≡ []) → MatchBool whole (met_between r s ≡ []) (met_between r s ≢ [])
    by true none more split = split.1 (none, more)
    by false none more split = λ all. more (split.0 all).1
