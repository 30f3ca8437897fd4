-- The units that a log is told to end are those of its pieces, by a reading that allows the most.
use Rattle.std.proofs.Common.{◌≡◌, ◌∙◌, ◌++◌, ℕ, Bool, true, false, not, List, [], ◌∷◌, map, flat_map, Option, Some, None, append-nil, append_assoc, refl, sym, ap, subst}
use Rattle.std.specs.Prelude.{◌↔◌, option_map, option_to_list, if◌then◌else◌, MatchBool}
use Rattle.std.specs.List.{list_all}
use Rattle.std.proofs.lemmas.Bool.{and_parts, and_from, not-true}
use Rattle.std.proofs.lemmas.List.{append_cancel_left, flat_map_more}
use Rattle.std.proofs.lemmas.List.Folds.{list_all-append}
use Rattle.il_frames.specs.declared.frame.Class.TheVariants as class
use Rattle.il_frames.specs.declared.frame.Frame.{Frame}
use Rattle.il_frames.specs.declared.entry.Entry.{Entry}
use Rattle.il_frames.specs.Frames.{class_of, byte_of, same_class}
use Rattle.il_frames.specs.Messages.{message_of}
use Rattle.lif_model.specs.Tape.{Tape}
use Rattle.lif_model.specs.Transfers.{full_pieces}
use Rattle.lif_model.proofs.Runs.{replaced_none, partly_replaced}
use Rattle.loop_model.specs.Loops.{Loop, host_loop}
use Rattle.il_frames.specs.NamedFrames.{command}
use Rattle.loop_model.specs.Exchanges.{Exchange, Command, Address, Send, Receive, Identify, is_address, is_talk_address, is_exchange, entries_of, Break, can_cut, Piece, Whole, Cut, piece_entries, is_piece, Reading}
use Rattle.loop_model.specs.Units.{RecordUnit, sought, units_of}
use Rattle.loop_model.specs.Effect.{UnitsEffect, Effect}
use Rattle.loop_model.proofs.EffectLaws.{UnitsEffect-append}
use Rattle.trace_readers.specs.Expected.{write_unit}
use Rattle.trace_readers.specs.Exchanges.{IsPrefix}
use Rattle.trace_readers.specs.Effects.{Signal, signal_of, Course, no_course, course_step, unit_told, course_after, units_told, EndsUnit}
use Rattle.trace_readers.proofs.PassLemmas.{no_talk_byte}
use Rattle.trace_readers.proofs.FitLemmas.{class_is}
use Rattle.trace_readers.proofs.UnitLemmas.{State, Idle, Moved, next, unit_by, told_unit, state_after, units_by, units_of-by, units_by-snoc}
use Rattle.trace_readers.proofs.WalkLemmas.{Quiet, Walk, All, Ends}
use Rattle.trace_readers.proofs.PieceLemmas.{written, Fits, Meant, Same, Longer, Followed, command_whole, command_cut}
use Rattle.trace_readers.proofs.SendLemmas.{address_whole, address_cut, identify_whole, identify_cut, send_whole, send_cut}
use Rattle.trace_readers.proofs.ReceiveLemmas.{receive_whole, receive_cut}

-- ---- signals

-- no signal but the last ends a unit, and that ends this one
abbrev Late : Course → List Signal → Option RecordUnit → Type 0
Late c [] o = o ≡ None
Late c (x ∷ []) o = unit_told c x ≡ o
Late c (x ∷ y ∷ ys) o = (unit_told c x ≡ None) × Late (course_step c x) (y ∷ ys) o

abbrev run : Course → List Signal → Course
run c [] = c
run c (x ∷ xs) = run (course_step c x) xs

quiet_run : (c t : Course) (xs : List Signal) → Quiet c xs t → run c xs ≡ t
quiet_run c t [] q = q
quiet_run c t (x ∷ xs) q = quiet_run (course_step c x) t xs q.1

quiet_late : (c t : Course) (xs : List Signal) → Quiet c xs t → Late c xs None
quiet_late c t [] q = refl
quiet_late c t (x ∷ []) q = q.0
quiet_late c t (x ∷ y ∷ ys) q = (q.0, quiet_late (course_step c x) t (y ∷ ys) q.1)

ends_late : (c u : Course) (front : List Signal) (x : Signal) (o : Option RecordUnit) → Quiet c front u →
    unit_told u x ≡ o → Late c (front ++ x ∷ []) o
ends_late c u [] x o q told = subst (λ (b : Course). unit_told b x ≡ o) (sym q) told
ends_late c u (y ∷ []) x o q told = (q.0, ends_late (course_step c y) u [] x o q.1 told)
ends_late c u (y ∷ z ∷ zs) x o q told = (q.0, ends_late (course_step c y) u (z ∷ zs) x o q.1 told)

run-append : (c : Course) (xs ys : List Signal) → run c (xs ++ ys) ≡ run (run c xs) ys
run-append c [] ys = refl
run-append c (x ∷ xs) ys = run-append (course_step c x) xs ys

walked : (c t : Course) (xs : List Signal) (o : Option RecordUnit) → Walk c xs t o → (run c xs ≡ t) × Late c xs o
walked c t xs o (All q none) = (quiet_run c t xs q, subst (Late c xs) (sym none) (quiet_late c t xs q))
walked c t xs o (Ends front x u is q to told) = (
  ap (run c) is ∙ run-append c front (x ∷ []) ∙ ap (λ (b : Course). course_step b x) (quiet_run c u front q) ∙ to,
  subst (λ (ys : List Signal). Late c ys o) (sym is) (ends_late c u front x o q told),
)

-- ---- entries

no_unit : (w : RecordUnit) → None ≡ Some w → ⊥
no_unit w e = let no : false ≡ true = cc in cc

module _ (d : ℕ) where
  run_course : (c : Course) (es : List Entry) → run c (map (signal_of d) es) ≡ course_after d c es
  run_course c [] = refl
  run_course c (e ∷ es) = run_course (course_step c (signal_of d e)) es

  pub course-append : (c : Course) (xs ys : List Entry) →
      course_after d c (xs ++ ys) ≡ course_after d (course_after d c xs) ys
  course-append c [] ys = refl
  course-append c (x ∷ xs) ys = course-append (course_step c (signal_of d x)) xs ys

  pub units-append : (c : Course) (xs ys : List Entry) →
      units_told d c (xs ++ ys) ≡ units_told d c xs ++ units_told d (course_after d c xs) ys
  units-append c [] ys = refl
  units-append c (x ∷ xs) ys =
      ap (λ (us : List RecordUnit). option_to_list (unit_told c (signal_of d x)) ++ us)
      (units-append (course_step c (signal_of d x)) xs ys)
      ∙ sym (append_assoc (option_to_list (unit_told c (signal_of d x))) _ _)

  late_units : (c : Course) (es : List Entry) (o : Option RecordUnit) → Late c (map (signal_of d) es) o →
      units_told d c es ≡ option_to_list o
  late_units c [] o late = ap option_to_list (sym late)
  late_units c (e ∷ []) o late = append-nil (option_to_list (unit_told c (signal_of d e))) ∙ ap option_to_list late
  late_units c (e ∷ f ∷ es) o late =
      ap (λ (u : Option RecordUnit). option_to_list u ++ units_told d (course_step c (signal_of d e)) (f ∷ es)) late.0
      ∙ late_units (course_step c (signal_of d e)) (f ∷ es) o late.1

  late_last : (c : Course) (es : List Entry) (e : Entry) (o : Option RecordUnit) →
      Late c (map (signal_of d) (es ++ e ∷ [])) o → unit_told (course_after d c es) (signal_of d e) ≡ o
  late_last c [] e o late = late
  late_last c (a ∷ []) e o late = late.1
  late_last c (a ∷ b ∷ bs) e o late = late_last (course_step c (signal_of d a)) (b ∷ bs) e o late.1

  late_inside : (c : Course) (es : List Entry) (e : Entry) (back : List Entry) (o : Option RecordUnit)
      (w : RecordUnit) →
      Late c (map (signal_of d) (es ++ e ∷ back)) o → unit_told (course_after d c es) (signal_of d e) ≡ Some w →
      (back ≡ []) × (o ≡ Some w)
  late_inside c [] e [] o w late told = (refl, sym late ∙ told)
  late_inside c [] e (f ∷ fs) o w late told = absurd (no_unit w (sym late.0 ∙ told))
  late_inside c (a ∷ []) e back o w late told = late_inside (course_step c (signal_of d a)) [] e back o w late.1 told
  late_inside c (a ∷ b ∷ bs) e back o w late told =
      late_inside (course_step c (signal_of d a)) (b ∷ bs) e back o w late.1 told

-- ---- lists

data Snoc (xs : List Entry) : Type 0 where
  Empty : xs ≡ [] → Snoc xs
  More : (front : List Entry) (last : Entry) → xs ≡ front ++ last ∷ [] → Snoc xs

unsnoc : (xs : List Entry) → Snoc xs
unsnoc [] = Empty refl
unsnoc (x ∷ xs) = by_rest (unsnoc xs)
  where
    by_rest : Snoc xs → Snoc (x ∷ xs)
    by_rest (Empty is) = More [] x (ap (λ (ys : List Entry). x ∷ ys) is)
    by_rest (More front last is) = More (x ∷ front) last (ap (λ (ys : List Entry). x ∷ ys) is)

snoc_parts : (xs ys : List Entry) (x y : Entry) → xs ++ x ∷ [] ≡ ys ++ y ∷ [] → (xs ≡ ys) × (x ≡ y)
snoc_parts [] [] x y e = (refl, cc)
snoc_parts [] (b ∷ []) x y e = cc
snoc_parts [] (b ∷ c ∷ ys) x y e = cc
snoc_parts (a ∷ []) [] x y e = cc
snoc_parts (a ∷ b ∷ xs) [] x y e = cc
snoc_parts (a ∷ xs) (b ∷ ys) x y e =
    let head : a ≡ b = cc in
    let tail : xs ++ x ∷ [] ≡ ys ++ y ∷ [] = cc in
    let rest = snoc_parts xs ys x y tail in
    (ap (λ (c : Entry). c ∷ xs) head ∙ ap (λ (zs : List Entry). b ∷ zs) rest.0, rest.1)

-- where an entry of joined lists stands
data Split (xs ys zs : List Entry) (e : Entry) (rest : List Entry) : Type 0 where
  Later : (more : List Entry) → zs ≡ xs ++ more → ys ≡ more ++ e ∷ rest → Split xs ys zs e rest
  Within : (back : List Entry) → xs ≡ zs ++ e ∷ back → Split xs ys zs e rest

split_at : (xs ys zs : List Entry) (e : Entry) (rest : List Entry) → xs ++ ys ≡ zs ++ e ∷ rest → Split xs ys zs e rest
split_at [] ys zs e rest is = Later zs refl is
split_at (x ∷ xs) ys [] e rest is = Within xs (let head : x ≡ e = cc in ap (λ (c : Entry). c ∷ xs) head)
split_at (x ∷ xs) ys (z ∷ zs) e rest is =
    let head : x ≡ z = cc in
    let tail : xs ++ ys ≡ zs ++ e ∷ rest = cc in
    by_rest head (split_at xs ys zs e rest tail)
  where
    by_rest : x ≡ z → Split xs ys zs e rest → Split (x ∷ xs) ys (z ∷ zs) e rest
    by_rest head (Later more first second) =
        Later more (ap (λ (c : Entry). c ∷ zs) (sym head) ∙ ap (λ (es : List Entry). x ∷ es) first) second
    by_rest head (Within back first) =
        Within back (ap (λ (c : Entry). c ∷ xs) head ∙ ap (λ (es : List Entry). z ∷ es) first)

-- ---- units

-- a unit that may have put nothing
nothing_put : (n : ℕ) (bytes : List ℕ) (tape : Tape) → UnitsEffect (write_unit n bytes None ∷ []) tape tape
nothing_put n bytes tape = (tape, partly_replaced n 0 (full_pieces bytes) tape tape (replaced_none n tape), refl)

match_false : (A B : Type 0) (b : Bool) → b ≡ false → MatchBool b A B → B
match_false A B true is m = cc
match_false A B false is m = m

false_match : (A B : Type 0) (b : Bool) → b ≡ false → B → MatchBool b A B
false_match A B true is m = cc
false_match A B false is m = m

-- a read leaves the tape
written_on : (o : Option RecordUnit) (old new : Tape) →
    UnitsEffect (option_to_list o) old new ↔ UnitsEffect (option_to_list (written o)) old new
written_on None old new = (λ e. e, λ e. e)
written_on (Some w) old new = by_kind w.writes refl
  where
    by_kind : (b : Bool) → w.writes ≡ b →
        UnitsEffect (w ∷ []) old new ↔ UnitsEffect (option_to_list (if b then Some w else None)) old new
    by_kind true is = (λ e. e, λ e. e)
    by_kind false is = (
      λ e. e.2 ∙ match_false _ _ w.writes is e.1,
      λ e. (old, false_match _ _ w.writes is refl, e),
    )

written_some : (o : Option RecordUnit) (w : RecordUnit) → Some w ≡ written o → o ≡ Some w
written_some None w e = absurd (no_unit w (sym e))
written_some (Some v) w e = by_kind v.writes e
  where
    by_kind : (b : Bool) → Some w ≡ (if b then Some v else None) → Some v ≡ Some w
    by_kind true is = sym is
    by_kind false is = absurd (no_unit w (sym is))

writing_is : (w : RecordUnit) → w.writes ≡ true → written (Some w) ≡ Some w
writing_is w writes = rw writes refl

-- ---- pieces

module _ (k d : ℕ) (low : is_address d ≡ true) where
  abbrev l : Loop
  l = host_loop k d

  command_is : (f : Frame) → is_exchange l (Command f) ≡ true →
      (f ≡ command (byte_of f)) × (is_talk_address (message_of (command (byte_of f))) ≡ false)
  command_is f legal =
      let parts = and_parts (same_class (class_of f) class.Cmd) (not (is_talk_address (message_of f))) legal in
      let is = class_is f class.Cmd parts.0 in
      (is, subst (λ (g : Frame). is_talk_address (message_of g) ≡ false) is (not-true _ parts.1))

  whole_piece : (s : State) (c : Course) (x : Exchange) → Fits s c → is_exchange l x ≡ true →
      Followed k d low s c (Whole x)
  whole_piece s c (Command f) fits legal =
      let is = command_is f legal in
      subst (λ (g : Frame). Followed k d low s c (Whole (Command g))) (sym is.0)
      (command_whole k d low s c (byte_of f) fits (no_talk_byte (byte_of f) is.1))
  whole_piece s c (Address n) fits legal = address_whole k d low s c n fits
  whole_piece s c (Send a number ds) fits legal = send_whole k d low s c a number ds fits legal
  whole_piece s c (Receive a number st answer) fits legal = receive_whole k d low s c a number st answer fits legal
  whole_piece s c (Identify f) fits legal = identify_whole k d low s c f fits

  cut_piece : (s : State) (c : Course) (x : Exchange) (m : ℕ) (b : Break) → Fits s c → is_exchange l x ≡ true →
      can_cut 0 (entries_of 0 x) m b ≡ true → Followed k d low s c (Cut x m b)
  cut_piece s c (Command f) m b fits legal can =
      let is = command_is f legal in
      subst (λ (g : Frame). Followed k d low s c (Cut (Command g) m b)) (sym is.0)
      (command_cut k d low s c (byte_of f) m b fits (no_talk_byte (byte_of f) is.1)
      (subst (λ (g : Frame). can_cut 0 (entries_of 0 (Command g)) m b ≡ true) is.0 can))
  cut_piece s c (Address n) m b fits legal can = address_cut k d low s c n m b fits can
  cut_piece s c (Send a number ds) m b fits legal can = send_cut k d low s c a number ds m b fits legal can
  cut_piece s c (Receive a number st answer) m b fits legal can =
      receive_cut k d low s c a number st answer m b fits legal can
  cut_piece s c (Identify f) m b fits legal can = identify_cut k d low s c f m b fits can

  any_piece : (s : State) (c : Course) (p : Piece) → Fits s c → is_piece l p ≡ true → Followed k d low s c p
  any_piece s c (Whole x) fits legal = whole_piece s c x fits legal
  any_piece s c (Cut x m b) fits legal =
      let parts = and_parts (is_exchange l x) (can_cut 0 (entries_of 0 x) m b) legal in
      cut_piece s c x m b fits parts.0 parts.1

  abbrev all : List Piece → List Entry
  all ps = flat_map (piece_entries 0) ps

  -- after a piece
  record Read (s : State) (c : Course) (p : Piece) : Type 0 where
    ends : Option RecordUnit
    fits : Fits (next l s p) (course_after d c (piece_entries 0 p))
    late : Late c (map (signal_of d) (piece_entries 0 p)) ends
    meant : Meant k d low s c p ends

  read_piece : (s : State) (c : Course) (p : Piece) → Fits s c → is_piece l p ≡ true → Read s c p
  read_piece s c p fits legal =
      let one = any_piece s c p fits legal in
      let way = walked c one.after (map (signal_of d) (piece_entries 0 p)) one.ends one.walk in
      record {
        ends = one.ends;
        fits = subst (Fits (next l s p)) (sym way.0 ∙ run_course d c (piece_entries 0 p)) one.fits;
        late = way.1;
        meant = one.meant;
      }

  -- and after many
  follow : (s : State) (c : Course) (ps : List Piece) → Fits s c → list_all (is_piece l) ps ≡ true →
      Fits (state_after l s ps) (course_after d c (all ps))
  follow s c [] fits legal = fits
  follow s c (p ∷ ps) fits legal =
      let parts = and_parts (is_piece l p) (list_all (is_piece l) ps) legal in
      subst (Fits (state_after l (next l s p) ps)) (sym (course-append d c (piece_entries 0 p) (all ps)))
      (follow (next l s p) (course_after d c (piece_entries 0 p)) ps (read_piece s c p fits parts.0).fits parts.1)

  -- a unit that a reading ends here is told
  last_told : (c : Course) (p : Piece) (w : RecordUnit) (log front : List Entry) (e : Entry) (s : State)
      (seen : Read s c p) → w.writes ≡ true → unit_by l s p ≡ Some w → log ++ e ∷ [] ≡ front ++ piece_entries 0 p →
      course_after d no_course front ≡ c → unit_told (course_after d no_course log) (signal_of d e) ≡ Some w
  last_told c p w log front e s seen writes ends is at =
      by_entries (unsnoc (piece_entries 0 p)) (late_is seen.meant)
    where
      late_is : Meant k d low s c p seen.ends → Late c (map (signal_of d) (piece_entries 0 p)) (Some w)
      late_is (Same o) =
          subst (Late c (map (signal_of d) (piece_entries 0 p))) (o ∙ ap written ends ∙ writing_is w writes) seen.late
      late_is (Longer n state none idle o q legal same told lone) = absurd (no_unit w (sym none ∙ ends))

      by_entries : Snoc (piece_entries 0 p) → Late c (map (signal_of d) (piece_entries 0 p)) (Some w) →
          unit_told (course_after d no_course log) (signal_of d e) ≡ Some w
      by_entries (Empty none) late =
          absurd (no_unit w (sym (subst (λ (es : List Entry). Late c (map (signal_of d) es) (Some w)) none late)))
      by_entries (More start final made) late =
          let parts =
          snoc_parts log (front ++ start) e final
          (is ∙ ap (λ (es : List Entry). front ++ es) made ∙ sym (append_assoc front start (final ∷ []))) in
          let before : course_after d no_course log ≡ course_after d c start =
          ap (course_after d no_course) parts.0 ∙ course-append d no_course front start
          ∙ ap (λ (b : Course). course_after d b start) at in
          ap (λ (b : Course). unit_told b (signal_of d e)) before
          ∙ ap (λ (f : Entry). unit_told (course_after d c start) (signal_of d f)) parts.1
          ∙ late_last d c start final (Some w)
          (subst (λ (es : List Entry). Late c (map (signal_of d) es) (Some w)) made late)

  -- ---- the ends of units

  prefix_legal : (before : List Piece) (p : Piece) → list_all (is_piece l) (before ++ p ∷ []) ≡ true →
      (list_all (is_piece l) before ≡ true) × (is_piece l p ≡ true)
  prefix_legal before p legal =
      let parts =
      and_parts (list_all (is_piece l) before) (list_all (is_piece l) (p ∷ []))
      (sym (list_all-append (is_piece l) before (p ∷ [])) ∙ legal) in
      (parts.0, (and_parts (is_piece l p) true parts.1).0)

  one_some : (o : Option RecordUnit) (w : RecordUnit) → option_to_list o ≡ w ∷ [] → o ≡ Some w
  one_some None w e = absurd (let no : false ≡ true = cc in cc)
  one_some (Some v) w e = let same : v ≡ w = cc in ap Some same

  -- what ends by a reading is what is told
  pub ends_told : (log : List Entry) (e : Entry) (w : RecordUnit) → w.writes ≡ true → EndsUnit l log e w →
      unit_told (course_after d no_course log) (signal_of d e) ≡ Some w
  ends_told log e w writes u =
      let legal = prefix_legal u.before u.last u.legal in
      let s = state_after l Idle u.before in
      let c = course_after d no_course (all u.before) in
      let seen = read_piece s c u.last (follow Idle no_course u.before refl legal.0) legal.1 in
      last_told c u.last w log (all u.before) e s seen writes ends (u.entries ∙ sym (flat_map_more
      (piece_entries 0) [] u.before u.last)) refl
    where
      ends : unit_by l (state_after l Idle u.before) u.last ≡ Some w
      ends =
          one_some _ w (append_cancel_left (units_of l u.before) _ _
          (ap (λ (us : List RecordUnit). us ++ option_to_list (unit_by l (state_after l Idle u.before) u.last))
          (sym (units_of-by l u.before))
          ∙ sym (units_by-snoc l Idle u.before u.last) ∙ units_of-by l (u.before ++ u.last ∷ []) ∙ u.unit))

  -- pieces of which the last ends a unit
  record EndFound (s : State) (log : List Entry) (e : Entry) (w : RecordUnit) : Type 0 where
    before : List Piece
    last : Piece
    legal : list_all (is_piece l) (before ++ last ∷ []) ≡ true
    entries : log ++ e ∷ [] ≡ all (before ++ last ∷ [])
    ends : unit_by l (state_after l s before) last ≡ Some w

  last_found : (s : State) (c : Course) (p : Piece) (log : List Entry) (e : Entry) (w : RecordUnit)
      (o : Option RecordUnit) → is_piece l p ≡ true → Meant k d low s c p o → o ≡ Some w →
      log ++ e ∷ [] ≡ piece_entries 0 p → EndFound s log e w
  last_found s c p log e w o legal (Same is) some made = record {
    before = [];
    last = p;
    legal = and_from _ _ legal refl;
    entries = made ∙ sym (append-nil (piece_entries 0 p));
    ends = written_some (unit_by l s p) w (sym some ∙ is);
  }
  last_found s c p log e w o legal (Longer n state none idle is q can same told lone) some made = record {
    before = [];
    last = q;
    legal = and_from _ _ can refl;
    entries = made ∙ sym same ∙ sym (append-nil (piece_entries 0 q));
    ends =
        ap (λ (u : State). unit_by l u q) state
        ∙ ap (λ (x : Option (Option ℕ)). option_map (told_unit n true c.bytes) x) told ∙ sym is ∙ some;
  }

  later_found : (s : State) (c : Course) (p : Piece) (log more : List Entry) (e : Entry) (w : RecordUnit) →
      is_piece l p ≡ true → log ≡ piece_entries 0 p ++ more → EndFound (next l s p) more e w → EndFound s log e w
  later_found s c p log more e w legal is found = record {
    before = p ∷ found.before;
    last = found.last;
    legal = and_from _ _ legal found.legal;
    entries = ap (λ (es : List Entry). es ++ e ∷ []) is ∙ append_assoc (piece_entries 0 p) more (e ∷ [])
        ∙ ap (λ (es : List Entry). piece_entries 0 p ++ es) found.entries;
    ends = found.ends;
  }

  find_end : (s : State) (c : Course) (ps : List Piece) → Fits s c → list_all (is_piece l) ps ≡ true →
      (log : List Entry) (e : Entry) (rest : List Entry) (w : RecordUnit) → all ps ≡ log ++ e ∷ rest →
      unit_told (course_after d c log) (signal_of d e) ≡ Some w → EndFound s log e w
  find_end s c [] fits legal [] e rest w is told = absurd (let no : false ≡ true = cc in cc)
  find_end s c [] fits legal (a ∷ log) e rest w is told = absurd (let no : false ≡ true = cc in cc)
  find_end s c (p ∷ ps) fits legal log e rest w is told =
      by_place
      (λ more second on. find_end (next l s p) (course_after d c (piece_entries 0 p)) ps seen.fits ok.1 more e rest w
      second on)
      (split_at (piece_entries 0 p) (all ps) log e rest is)
    where
      ok : (is_piece l p ≡ true) × (list_all (is_piece l) ps ≡ true)
      ok = and_parts (is_piece l p) (list_all (is_piece l) ps) legal

      seen : Read s c p
      seen = read_piece s c p fits ok.0

      by_place : ((more : List Entry) → all ps ≡ more ++ e ∷ rest →
          unit_told (course_after d (course_after d c (piece_entries 0 p)) more) (signal_of d e) ≡ Some w →
          EndFound (next l s p) more e w) → Split (piece_entries 0 p) (all ps) log e rest → EndFound s log e w
      by_place again (Later more first second) =
          later_found s c p log more e w ok.0 first
          (again more second
          (ap (λ (b : Course). unit_told b (signal_of d e))
          (sym (ap (course_after d c) first ∙ course-append d c (piece_entries 0 p) more)) ∙ told))
      by_place again (Within back made) =
          let end = late_inside d c log e back seen.ends w
          (subst (λ (es : List Entry). Late c (map (signal_of d) es) seen.ends) made seen.late) told in
          last_found s c p log e w seen.ends ok.0 seen.meant end.1
          (ap (λ (es : List Entry). log ++ e ∷ es) (sym end.0) ∙ sym made)

  -- and what is told ends by some reading
  pub told_ends : (log : List Entry) (e : Entry) (w : RecordUnit) → IsPrefix l (log ++ e ∷ []) →
      unit_told (course_after d no_course log) (signal_of d e) ≡ Some w → EndsUnit l log e w
  told_ends log e w goes told =
      let found = find_end Idle no_course goes.1.pieces refl goes.1.legal log e goes.0 w
      (sym goes.1.entries ∙ append_assoc log (e ∷ []) goes.0) told in
      record {
        before = found.before;
        last = found.last;
        legal = found.legal;
        entries = found.entries;
        unit = sym (units_of-by l (found.before ++ found.last ∷ [])) ∙ units_by-snoc l Idle found.before found.last
            ∙ ap (λ (us : List RecordUnit). us ++ option_to_list (unit_by l
            (state_after l Idle found.before) found.last))
            (units_of-by l found.before)
            ∙ ap (λ (o : Option RecordUnit). units_of l found.before ++ option_to_list o) found.ends;
      }

  -- ---- what a log did to the tape

  -- the unit of a piece, by a reading, leaves no more than what is told
  piece_effect : (s : State) (c : Course) (p : Piece) (o : Option RecordUnit) → Meant k d low s c p o →
      (old new : Tape) → UnitsEffect (option_to_list (unit_by l s p)) old new → UnitsEffect (option_to_list o) old new
  piece_effect s c p o (Same is) old new e =
      subst (λ (u : Option RecordUnit). UnitsEffect (option_to_list u) old new) (sym is)
      ((written_on (unit_by l s p) old new).0 e)
  piece_effect s c p o (Longer n state none idle is q can same told lone) old new e =
      let left : new ≡ old = subst (λ (u : Option RecordUnit). UnitsEffect (option_to_list u) old new) none e in
      subst (λ (u : Option RecordUnit). UnitsEffect (option_to_list u) old new) (sym is)
      (subst (λ (t : Tape). UnitsEffect (write_unit n c.bytes None ∷ []) old t) (sym left)
      (nothing_put n c.bytes old))

  told_piece : (s : State) (c : Course) (p : Piece) (ps : List Piece) (seen : Read s c p) →
      units_told d c (all (p ∷ ps))
      ≡ option_to_list seen.ends ++ units_told d (course_after d c (piece_entries 0 p)) (all ps)
  told_piece s c p ps seen =
      units-append d c (piece_entries 0 p) (all ps)
      ∙ ap (λ (us : List RecordUnit). us ++ units_told d (course_after d c (piece_entries 0 p)) (all ps))
      (late_units d c (piece_entries 0 p) seen.ends seen.late)

  any_effect : (s : State) (c : Course) (ps : List Piece) → Fits s c → list_all (is_piece l) ps ≡ true →
      (old new : Tape) → UnitsEffect (units_by l s ps) old new → UnitsEffect (units_told d c (all ps)) old new
  any_effect s c [] fits legal old new e = e
  any_effect s c (p ∷ ps) fits legal old new e =
      let ok = and_parts (is_piece l p) (list_all (is_piece l) ps) legal in
      let seen = read_piece s c p fits ok.0 in
      let parts = (UnitsEffect-append (option_to_list (unit_by l s p)) (units_by l (next l s p) ps) old new).0 e in
      subst (λ (us : List RecordUnit). UnitsEffect us old new) (sym (told_piece s c p ps seen))
      ((UnitsEffect-append (option_to_list seen.ends)
      (units_told d (course_after d c (piece_entries 0 p)) (all ps)) old new).1 (
        parts.0,
        piece_effect s c p seen.ends seen.meant old parts.0 parts.1,
        any_effect (next l s p) (course_after d c (piece_entries 0 p)) ps seen.fits ok.1 parts.0 new parts.2,
      ))

  -- a reading whose units are those that are told
  record Best (s : State) (c : Course) (ps : List Piece) : Type 0 where
    pieces : List Piece
    legal : list_all (is_piece l) pieces ≡ true
    same : all ps ≡ all pieces
    effect : (old new : Tape) → UnitsEffect (units_told d c (all ps)) old new →
        UnitsEffect (units_by l s pieces) old new

  -- the piece that is taken
  record Taken (s : State) (p : Piece) (o : Option RecordUnit) : Type 0 where
    piece : Piece
    legal : is_piece l piece ≡ true
    same : piece_entries 0 p ≡ piece_entries 0 piece
    state : next l s p ≡ next l s piece
    effect : (old new : Tape) → UnitsEffect (option_to_list o) old new →
        UnitsEffect (option_to_list (unit_by l s piece)) old new

  moved_idle : (s : State) (n : ℕ) (bytes : List ℕ) (q : Piece) → s ≡ Moved n true bytes → sought l q ≡ None →
      next l s q ≡ Idle
  moved_idle s n bytes q is lone = subst (λ (u : State). next l u q ≡ Idle) (sym is) (rw lone refl)

  take_piece : (s : State) (c : Course) (p : Piece) (o : Option RecordUnit) → is_piece l p ≡ true →
      Meant k d low s c p o →
      Taken s p o
  take_piece s c p o legal (Same is) = record {
    piece = p;
    legal = legal;
    same = refl;
    state = refl;
    effect = λ old new e. (written_on (unit_by l s p) old new).1
        (subst (λ (u : Option RecordUnit). UnitsEffect (option_to_list u) old new) is e);
  }
  take_piece s c p o legal (Longer n state none idle is q can same told lone) =
      let ends : unit_by l s q ≡ o =
      ap (λ (u : State). unit_by l u q) state
      ∙ ap (λ (x : Option (Option ℕ)). option_map (told_unit n true c.bytes) x) told ∙ sym is in
      record {
        piece = q;
        legal = can;
        same = sym same;
        state = idle ∙ sym (moved_idle s n c.bytes q state lone);
        effect = λ old new e. subst (λ (u : Option RecordUnit). UnitsEffect (option_to_list u) old new) (sym ends) e;
      }

  best_reading : (s : State) (c : Course) (ps : List Piece) → Fits s c → list_all (is_piece l) ps ≡ true → Best s c ps
  best_reading s c [] fits legal = record { pieces = []; legal = refl; same = refl; effect = λ old new e. e }
  best_reading s c (p ∷ ps) fits legal =
      let ok = and_parts (is_piece l p) (list_all (is_piece l) ps) legal in
      let seen = read_piece s c p fits ok.0 in
      let one = take_piece s c p seen.ends ok.0 seen.meant in
      let rest = best_reading (next l s p) (course_after d c (piece_entries 0 p)) ps seen.fits ok.1 in
      record {
        pieces = one.piece ∷ rest.pieces;
        legal = and_from _ _ one.legal rest.legal;
        same = ap (λ (es : List Entry). es ++ all ps) one.same
            ∙ ap (λ (es : List Entry). piece_entries 0 one.piece ++ es) rest.same;
        effect = λ old new e.
            let parts =
            (UnitsEffect-append (option_to_list seen.ends)
            (units_told d (course_after d c (piece_entries 0 p)) (all ps)) old new).0
            (subst (λ (us : List RecordUnit). UnitsEffect us old new) (told_piece s c p ps seen) e) in
            (UnitsEffect-append (option_to_list (unit_by l s one.piece)) (units_by l (next l s one.piece) rest.pieces)
            old new).1 (
              parts.0,
              one.effect old parts.0 parts.1,
              subst (λ (u : State). UnitsEffect (units_by l u rest.pieces) parts.0 new) one.state
                  (rest.effect parts.0 new parts.2),
            );
      }

  -- What the units that are told may leave is what the log may have left by some reading: the reading that is
  -- taken allows what any other does.
  pub effect_told : (log : List Entry) (old new : Tape) → Reading l log →
      Effect l old log new ↔ UnitsEffect (units_told d no_course log) old new
  effect_told log old new r = (
    λ x. subst (λ (es : List Entry). UnitsEffect (units_told d no_course es) old new) (sym x.reading.entries)
        (any_effect Idle no_course x.reading.pieces refl x.reading.legal old new
        (subst (λ (us : List RecordUnit). UnitsEffect us old new) (sym (units_of-by l x.reading.pieces)) x.effect)),
    λ x. by_best (best_reading Idle no_course r.pieces refl r.legal) x,
  )
    where
      by_best : Best Idle no_course r.pieces → UnitsEffect (units_told d no_course log) old new → Effect l old log new
      by_best found x = record {
        reading = record {
          pieces = found.pieces;
          legal = found.legal;
          entries = r.entries ∙ found.same;
        };
        effect = subst (λ (us : List RecordUnit). UnitsEffect us old new) (units_of-by l found.pieces)
            (found.effect old new
            (subst (λ (es : List Entry). UnitsEffect (units_told d no_course es) old new) r.entries x));
      }
