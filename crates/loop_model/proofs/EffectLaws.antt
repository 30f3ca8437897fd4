-- Laws of what logs do to a tape and of what they carry.
use Rattle.std.proofs.Common.{map, ◌≡◌, ◌↔◌, ℕ, ◌++◌, ◌+◌, ◌&&◌, ◌||◌, ◌==◌, Bool, true, false, not, nat_eq, List, [], ◌∷◌, length, drop, Option, Some, None, option_and_then, option_to_list, is_some, refl, sym, ap, subst, append_assoc}
use Rattle.std.specs.List.{list_any, starts_with}
use Rattle.std.proofs.lemmas.Bool.{and_parts, or_parts}
use Rattle.il_frames.specs.declared.entry.Entry.{Entry}
use Rattle.lif_model.specs.Tape.{Tape}
use Rattle.loop_model.specs.Loops.{Loop}
use Rattle.loop_model.specs.Exchanges.{Exchange, entries_of, Piece, Whole, Cut, breaks_off}
use Rattle.loop_model.specs.Units.{RecordUnit, sent_bytes, is_transfer, told_status, unit_of, unit_after_seek, unit_at, units_of, sought, is_open, ends_within}
use Rattle.loop_model.specs.Effect.{UnitsEffect, Effect, is_good, is_out, is_in, transfer_of, all_good}
use Rattle.lif_model.specs.Transfers.{Transfer, records_of, is_overwritten_by, carries, are_carried_out, are_carried_in}
use Rattle.loop_model.proofs.ExchangeLaws.{Reading-append}

-- ---- units of joined logs

no_unit : (d k : ℕ) (x : Exchange) (bytes : List ℕ) (o : Option (Option ℕ)) → is_transfer d x bytes ≡ false → option_and_then (unit_of d k x bytes) o ≡ None
no_unit d k x bytes None other = refl
no_unit d k x bytes (Some status) other = rw other refl

after_seek : (l : Loop) (k : ℕ) (ps qs : List Piece) → is_open l ps ≡ false → unit_after_seek l (ps ++ qs) k ≡ unit_after_seek l ps k
after_seek l k [] qs shut = cc
after_seek l k (Whole x ∷ []) [] shut = refl
after_seek l k (Whole x ∷ []) (q ∷ qs) shut = no_unit l.drive k x (sent_bytes (entries_of l.controller x)) (told_status l q) shut
after_seek l k (Whole x ∷ p ∷ ps) qs shut = refl
after_seek l k (Cut x n b ∷ ps) qs shut = refl

same_unit : (l : Loop) (ps qs : List Piece) (o : Option ℕ) → (is_some o && is_open l ps) ≡ false → option_and_then (unit_after_seek l (ps ++ qs)) o ≡ option_and_then (unit_after_seek l ps) o
same_unit l ps qs None shut = refl
same_unit l ps qs (Some k) shut = after_seek l k ps qs shut

-- the units of joined exchanges are those of both parts, where the first does not end within a unit
pub units_of-append : (l : Loop) (ps qs : List Piece) → ends_within l ps ≡ false → units_of l (ps ++ qs) ≡ units_of l ps ++ units_of l qs
units_of-append l [] qs e = refl
units_of-append l (p ∷ ps) qs e =
    let parts = or_parts (is_some (sought l p) && is_open l ps) (ends_within l ps) e in
    let here : unit_at l (p ∷ (ps ++ qs)) ≡ unit_at l (p ∷ ps) = same_unit l ps qs (sought l p) parts.0 in
    let later = units_of-append l ps qs parts.1 in
    rw (here, later) (sym (append_assoc (option_to_list (unit_at l (p ∷ ps))) (units_of l ps) (units_of l qs)))

shut_by_break : (l : Loop) (ps : List Piece) → breaks_off ps ≡ true → is_open l ps ≡ false
shut_by_break l [] e = cc
shut_by_break l (Cut x n b ∷ ps) e = refl
shut_by_break l (Whole x ∷ []) e = cc
shut_by_break l (Whole x ∷ p ∷ ps) e = refl

neither : (a b c : Bool) → b ≡ false → c ≡ false → ((a && b) || c) ≡ false
neither true b c p q = rw (p, q) refl
neither false b c p q = q

-- a log that a broken exchange ends does not end within a unit
pub ends_within-broken : (l : Loop) (ps : List Piece) → breaks_off ps ≡ true → ends_within l ps ≡ false
ends_within-broken l [] e = refl
ends_within-broken l (Cut x n b ∷ []) e = refl
ends_within-broken l (Cut x n b ∷ p ∷ ps) e = cc
ends_within-broken l (Whole x ∷ ps) e = neither (is_some (sought l (Whole x))) (is_open l ps) (ends_within l ps) (shut_by_break l ps e) (ends_within-broken l ps e)

-- ---- effects of joined logs

-- the effect of joined units is one effect after the other
pub UnitsEffect-append : (us ws : List RecordUnit) (old new : Tape) → UnitsEffect (us ++ ws) old new ↔ ((between : Tape) × UnitsEffect us old between × UnitsEffect ws between new)
UnitsEffect-append [] ws old new = (λ e. (old, refl, e), λ e. subst (λ (t : Tape). UnitsEffect ws t new) e.1 e.2)
UnitsEffect-append (u ∷ us) ws old new = (
  λ e. let rest = (UnitsEffect-append us ws e.0 new).0 e.2 in (rest.0, (e.0, e.1, rest.1), rest.2),
  λ e. (e.1.0, e.1.1, (UnitsEffect-append us ws e.1.0 new).1 (e.0, e.1.2, e.2)),
)

-- the effect of an appended log is one effect after the other
pub Effect-append : {l : Loop} {old between new : Tape} {first second : List Entry} → (a : Effect l old first between) → ends_within l a.reading.pieces ≡ false → Effect l between second new → Effect l old (first ++ second) new
Effect-append {l} {old} {between} {new} a outside b = record {
  reading = Reading-append l a.reading b.reading;
  effect =
      subst (λ (ws : List RecordUnit). UnitsEffect ws old new) (sym (units_of-append l a.reading.pieces b.reading.pieces outside))
      ((UnitsEffect-append (units_of l a.reading.pieces) (units_of l b.reading.pieces) old new).1 (between, a.effect, b.effect));
}

-- ---- the log of a command

shut_behind : (l : Loop) (ps qs : List Piece) → is_open l ps ≡ false → is_open l (ps ++ qs) ≡ false
shut_behind l [] qs e = cc
shut_behind l (Whole x ∷ []) [] e = e
shut_behind l (Whole x ∷ []) (q ∷ qs) e = refl
shut_behind l (Whole x ∷ p ∷ ps) qs e = refl
shut_behind l (Cut x n b ∷ ps) qs e = refl

sought_shut : (sought_one : Bool) (l : Loop) (ps qs : List Piece) → (sought_one && is_open l ps) ≡ false → (sought_one && is_open l (ps ++ qs)) ≡ false
sought_shut true l ps qs e = shut_behind l ps qs e
sought_shut false l ps qs e = refl

both_false : (a b : Bool) → a ≡ false → b ≡ false → (a || b) ≡ false
both_false true b p q = cc
both_false false b p q = q

-- joined exchanges end outside a unit where both parts do
pub ends_within-append : (l : Loop) (ps qs : List Piece) → ends_within l ps ≡ false → ends_within l qs ≡ false → ends_within l (ps ++ qs) ≡ false
ends_within-append l [] qs a b = b
ends_within-append l (p ∷ ps) qs a b =
    let parts = or_parts (is_some (sought l p) && is_open l ps) (ends_within l ps) a in
    both_false (is_some (sought l p) && is_open l (ps ++ qs)) (ends_within l (ps ++ qs))
    (sought_shut (is_some (sought l p)) l ps qs parts.0) (ends_within-append l ps qs parts.1 b)

-- ---- transfers

any_mapped : (test : Transfer → Bool) (ws : List RecordUnit) → list_any (λ w. test (transfer_of w)) ws ≡ list_any test (map transfer_of ws)
any_mapped test [] = refl
any_mapped test (w ∷ ws) = ap (λ (b : Bool). test (transfer_of w) || b) (any_mapped test ws)

same_test : (a b : Bool) → b ≡ true → (a && b) ≡ a
same_test true b e = e
same_test false b e = refl

-- a step of both definitions, part by part
same_step : (t u : Bool) (f s : Bool) (a b : Bool) (c d : Bool) (x y : Bool) → t ≡ u → a ≡ b → c ≡ d → x ≡ y →
    ((t && (f && (s && (not a && c)))) || x) ≡ ((u && (f && (s && (not b && d)))) || y)
same_step t u f s a b c d x y p q r z = rw (p, q, r, z) refl

carries_by : (test : RecordUnit → Bool) (known : Transfer → Bool) → ((w : RecordUnit) → is_good w.status ≡ true → test w ≡ known (transfer_of w)) →
    (ws : List RecordUnit) (n : ℕ) (bytes : List ℕ) → all_good ws ≡ true → carries transfer_of test ws n bytes ≡ carries (λ t. t) known (map transfer_of ws) n bytes
carries_by test known same [] n bytes good = refl
carries_by test known same (w ∷ ws) n bytes good =
    let parts = and_parts (is_good w.status) (all_good ws) good in
    same_step (test w) (known (transfer_of w)) (w.first == n) (starts_with nat_eq bytes w.bytes)
    (list_any (λ y. is_overwritten_by (transfer_of w) (transfer_of y)) ws) (list_any (λ y. is_overwritten_by (transfer_of w) y) (map transfer_of ws)) _ _ _ _
    (same w parts.0) (any_mapped (λ y. is_overwritten_by (transfer_of w) y) ws)
    (carries_by test known same ws (n + records_of w.bytes) (drop (length w.bytes) bytes) parts.1) (carries_by test known same ws n bytes parts.1)

-- where each status is 0, units carry what their transfers carry, out and in
pub carries-out : (ws : List RecordUnit) (n : ℕ) (bytes : List ℕ) → all_good ws ≡ true → carries transfer_of is_out ws n bytes ≡ are_carried_out (map transfer_of ws) n bytes
carries-out = carries_by is_out (λ t. t.writes) (λ w good. same_test w.writes (is_good w.status) good)

pub carries-in : (ws : List RecordUnit) (n : ℕ) (bytes : List ℕ) → all_good ws ≡ true → carries transfer_of is_in ws n bytes ≡ are_carried_in (map transfer_of ws) n bytes
carries-in = carries_by is_in (λ t. not t.writes) (λ w good. same_test (not w.writes) (is_good w.status) good)
