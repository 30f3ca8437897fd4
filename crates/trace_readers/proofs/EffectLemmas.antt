-- What the reader of effects keeps, and what it answers.
use Rattle.std.proofs.Common.{◌≡◌, ◌≢◌, ◌<◌, ◌≤◌, ◌∙◌, ◌+◌, ◌/◌, ◌%◌, ◌&&◌, ◌||◌, ◌==◌, ◌++◌, inl, inr, ℕ, nat_le, nat_lt, Bool, true, false, List, [], ◌∷◌, length, map, take, get_or, set, Option, Some, None, Result, Ok, Err, append-nil, append_assoc, refl, sym, ap, subst, arith, length-set, get_or-set_same, get_or-set_other}
use Rattle.std.specs.Prelude.{◌↔◌, if◌then◌else◌, option_to_list, MatchBool, MatchResult, IfOk}
use Rattle.std.specs.Result.{result_err}
use Rattle.std.proofs.lemmas.Bool.{cases_lt, cases_eq, le-leb, lt-ltb}
use Rattle.std.proofs.lemmas.Bool.Decides.{nat_tests}
use Rattle.std.proofs.lemmas.List.{length-map, length-append, length-take-le, take_all, take-append-le, get_or-map}
use Rattle.il_frames.specs.declared.entry.Entry.{Entry}
use Rattle.lif_model.specs.Tape.{Tape, IsTape, record_at}
use Rattle.lif_model.specs.Transfers.{full_pieces}
use Rattle.loop_model.specs.Loops.{host_loop}
use Rattle.loop_model.specs.Exchanges.{is_address, Reading}
use Rattle.loop_model.specs.Units.{RecordUnit}
use Rattle.loop_model.specs.Effect.{is_good, Effect}
use Rattle.trace_readers.specs.declared.expected.UnitFault.{UnitFault}
use Rattle.trace_readers.specs.declared.expected.UnitFault.TheVariants as fault
use Rattle.trace_readers.specs.declared.effects.Cue.{Cue}
use Rattle.trace_readers.specs.declared.effects.Cue.TheVariants as cue
use Rattle.trace_readers.specs.declared.effects.Stage.{Stage}
use Rattle.trace_readers.specs.declared.effects.Stage.TheVariants as stage
use Rattle.trace_readers.specs.declared.effects.Ended.{Ended}
use Rattle.trace_readers.specs.Exchanges.{IsPrefix}
use Rattle.trace_readers.specs.Places.{fate_of}
use Rattle.trace_readers.specs.Expected.{IsAllowedAs, Allows, AreWhole, IsExpectedAfter, write_fault, known_after, unit_fault, after_unit}
use Rattle.trace_readers.specs.Effects.{cue_of, signal_of, Course, no_course, course_step, unit_told, unit_ended, stage_after, ended, bytes_after, course_after, units_told, EndsUnit, unit_room, kept_bytes_after, end_fault, known_end, known_by, AreClear, EffectReader, IsEffectAfter}
use Rattle.trace_readers.proofs.KnownLemmas.{length-full}
use Rattle.trace_readers.proofs.ExpectedLemmas.{expected_first, expected_more, size_after, filler, filler_stands, filler_size}
use Rattle.trace_readers.proofs.CourseLemmas.{course-append, units-append, ends_told, told_ends, effect_told}

abbrev Records : Type 0
Records = List (Option (List ℕ))

-- ---- bytes that are kept

take_short : (room : ℕ) (bytes : List ℕ) → length bytes ≤ room → take room bytes ≡ bytes
take_short room bytes le = take_all room bytes le

-- one byte more, if there is room
kept_more : (room byte : ℕ) (bytes : List ℕ) →
    take room (bytes ++ byte ∷ [])
    ≡ (if nat_lt (length (take room bytes)) room then take room bytes ++ byte ∷ [] else take room bytes)
kept_more room byte bytes = elim (cases_lt (length bytes) room) [
  | inl lt ↦
      let short : take room bytes ≡ bytes = take_short room bytes (omega (arith, lt)) in
      take_short room (bytes ++ byte ∷ []) (omega (arith, lt, length-append bytes (byte ∷ [])))
      ∙ sym (rw (short, lt-ltb (length bytes) room lt) refl)
  | inr ge ↦
      take-append-le room bytes (byte ∷ []) ge
      ∙ sym (rw (length-take-le room bytes ge) (rw (no_less room) refl))
]
  where
    no_less : (n : ℕ) → nat_lt n n ≡ false
    no_less n = grind (arith, nat_tests)

kept_right : (s : Stage) (room : ℕ) (c : Cue) (bytes : List ℕ) → 1 ≤ room →
    kept_bytes_after s room c (take room bytes) ≡ take room (bytes_after s c bytes)
kept_right (stage.Writing n) room (cue.Data byte) bytes some = sym (take_short room (byte ∷ []) (omega (arith, some)))
kept_right (stage.Sent n) room (cue.Data byte) bytes some = sym (kept_more room byte bytes)
kept_right s room (cue.Data byte) bytes some = refl
kept_right s room c bytes some = refl

-- ---- the faults of kept bytes

no_le : (a b : ℕ) → b < a → nat_le a b ≡ false
no_le a b lt = grind (arith, nat_tests)

not_none : (n : ℕ) → 1 ≤ n → (n == 0) ≡ false
not_none n some = grind (arith, nat_tests)

neither : (a b c : Bool) → b ≡ false → c ≡ false → (a && (b || c)) ≡ false
neither true b c first second = rw (first, second) refl
neither false b c first second = refl

-- more bytes than the tape has
abbrev long_fault : Bool → UnitFault
long_fault true = fault.BadUnit
long_fault false = fault.Unclear

too_long : (n size first : ℕ) (bytes : List ℕ) (good : Bool) → n ≤ size → unit_room size ≤ length bytes →
    write_fault n first bytes good ≡ Some (long_fault good)
too_long n size first bytes true le long =
    rw (neither (length bytes % 256 == 0) (length bytes == 0) (nat_le (first + length bytes / 256) n)
    (not_none (length bytes) (omega (arith, long)))
    (no_le (first + length bytes / 256) n (omega (arith, long, le)))) refl
too_long n size first bytes false le long =
    rw (no_le (length (full_pieces bytes)) 1 (omega (arith, long, length-full bytes))) refl

kept_fault : (n size first : ℕ) (bytes : List ℕ) (good : Bool) → n ≤ size →
    write_fault n first (take (unit_room size) bytes) good ≡ write_fault n first bytes good
kept_fault n size first bytes good le = elim (cases_lt (length bytes) (unit_room size)) [
  | inl lt ↦
      ap (λ (b : List ℕ). write_fault n first b good) (take_short (unit_room size) bytes (omega (arith, lt)))
  | inr ge ↦
      let long : unit_room size ≤ length (take (unit_room size) bytes) =
      omega (arith, length-take-le (unit_room size) bytes ge) in
      too_long n size first (take (unit_room size) bytes) good le long
      ∙ sym (too_long n size first bytes good le ge)
]

no_fault : (f : UnitFault) → None ≡ Some f → ⊥
no_fault f e = let no : false ≡ true = cc in cc

kept_all : (n size first : ℕ) (bytes : List ℕ) (good : Bool) → n ≤ size → write_fault n first bytes good ≡ None →
    take (unit_room size) bytes ≡ bytes
kept_all n size first bytes good le sound = elim (cases_lt (length bytes) (unit_room size)) [
  | inl lt ↦ take_short (unit_room size) bytes (omega (arith, lt))
  | inr ge ↦ absurd (no_fault (long_fault good) (sym sound ∙ too_long n size first bytes good le ge))
]

-- ---- lists of units

abbrev fault_of : ℕ → Option RecordUnit → Option UnitFault
fault_of n None = None
fault_of n (Some w) = unit_fault n w

abbrev after_told : Option RecordUnit → Records → Records
after_told None r = r
after_told (Some w) r = after_unit w r

unit_size : (w : RecordUnit) (r : Records) → unit_fault (length r) w ≡ None → length (after_unit w r) ≡ length r
unit_size w r sound = by_kind w.writes sound
  where
    by_kind : (b : Bool) → (if b then write_fault (length r) w.first w.bytes (is_good w.status) else None) ≡ None →
        length (if b then known_after w.first w.bytes (is_good w.status) r else r) ≡ length r
    by_kind true on = size_after w.first w.bytes (is_good w.status) r on
    by_kind false on = refl

known_size : (n : ℕ) (us : List RecordUnit) (r : Records) → AreClear n us → length r ≡ n → length (known_by us r) ≡ n
known_size n [] r clear size = size
known_size n (w ∷ ws) r clear size =
    known_size n ws (after_unit w r) clear.1
    (unit_size w r (ap (λ (m : ℕ). unit_fault m w) size ∙ clear.0) ∙ size)

clear_append : (n : ℕ) (us ws : List RecordUnit) → AreClear n us → AreClear n ws → AreClear n (us ++ ws)
clear_append n [] ws first second = second
clear_append n (u ∷ us) ws first second = (first.0, clear_append n us ws first.1 second)

known_append : (us ws : List RecordUnit) (r : Records) → known_by (us ++ ws) r ≡ known_by ws (known_by us r)
known_append [] ws r = refl
known_append (u ∷ us) ws r = known_append us ws (after_unit u r)

expected_all : (n : ℕ) (old : Tape) (us ws : List RecordUnit) (r : Records) → IsExpectedAfter old us r →
    AreClear n ws → length r ≡ n → IsExpectedAfter old (us ++ ws) (known_by ws r)
expected_all n old us [] r was clear size = subst (λ (vs : List RecordUnit). IsExpectedAfter old vs r) (sym
    (append-nil us)) was
expected_all n old us (w ∷ ws) r was clear size =
    let sound = ap (λ (m : ℕ). unit_fault m w) size ∙ clear.0 in
    subst (λ (vs : List RecordUnit). IsExpectedAfter old vs (known_by ws (after_unit w r))) (append_assoc us
    (w ∷ []) ws)
    (expected_all n old (us ++ w ∷ []) ws (after_unit w r) (expected_more old us w r sound was) clear.1
    (unit_size w r sound ∙ size))

-- what the reader knows is right of the units that are told
expected_of : (d : ℕ) (old : Tape) (log : List Entry) (r : EffectReader) → IsEffectAfter d old log r →
    IsExpectedAfter old (units_told d no_course log) r.expected.records
expected_of d old log r is =
    subst (IsExpectedAfter old (units_told d no_course log)) (sym is.records)
    (expected_all (length old) old [] (units_told d no_course log) (map Some old)
    (expected_first (length old) old is.tape) is.clear (length-map old Some))

records_size : (d : ℕ) (old : Tape) (log : List Entry) (r : EffectReader) → IsEffectAfter d old log r →
    length r.expected.records ≡ length old
records_size d old log r is =
    ap (λ (rs : Records). length rs) is.records
    ∙ known_size (length old) (units_told d no_course log) (map Some old) is.clear (length-map old Some)

-- ---- one entry more

told_fault : (n : ℕ) (bytes : List ℕ) (o : Option Ended) → end_fault n bytes o ≡ fault_of n (unit_ended bytes o)
told_fault n bytes None = refl
told_fault n bytes (Some x) = refl

told_known : (bytes : List ℕ) (o : Option Ended) (r : Records) → known_end bytes o r ≡ after_told (unit_ended bytes o) r
told_known bytes None r = refl
told_known bytes (Some x) r = refl

kept_end : (n size : ℕ) (bytes : List ℕ) (o : Option Ended) → n ≤ size →
    end_fault n (take (unit_room size) bytes) o ≡ end_fault n bytes o
kept_end n size bytes None le = refl
kept_end n size bytes (Some x) le = kept_fault n size x.first bytes (is_good x.status) le

known_kept : (n size : ℕ) (bytes : List ℕ) (o : Option Ended) (r : Records) → n ≤ size → end_fault n bytes o ≡ None →
    known_end (take (unit_room size) bytes) o r ≡ known_end bytes o r
known_kept n size bytes None r le sound = refl
known_kept n size bytes (Some x) r le sound =
    ap (λ (b : List ℕ). known_after x.first b (is_good x.status) r)
    (kept_all n size x.first bytes (is_good x.status) le sound)

known_told : (o : Option RecordUnit) (r : Records) → known_by (option_to_list o) r ≡ after_told o r
known_told None r = refl
known_told (Some w) r = refl

clear_told : (n : ℕ) (o : Option RecordUnit) → fault_of n o ≡ None → AreClear n (option_to_list o)
clear_told n None e = tt
clear_told n (Some w) e = (e, tt)

err_from : (x : Result (Unit {0}) UnitFault) (f : UnitFault) → result_err x ≡ Some f → x ≡ Err f
err_from (Ok u) f e = absurd (no_fault f e)
err_from (Err g) f e = let same : g ≡ f = cc in ap (λ (h : UnitFault). Err h) same

faulty_writes : (n : ℕ) (w : RecordUnit) (f : UnitFault) → unit_fault n w ≡ Some f → w.writes ≡ true
faulty_writes n w f e = by_kind w.writes e
  where
    by_kind : (b : Bool) → (if b then write_fault n w.first w.bytes (is_good w.status) else None) ≡ Some f → b ≡ true
    by_kind true on = refl
    by_kind false on = absurd (no_fault f on)

module _
    (d : ℕ)
    (old : Tape)
    (log : List Entry)
    (e : Entry)
    (before after : EffectReader)
    (is : IsEffectAfter d old log before)
    (drive : after.drive ≡ before.drive)
    (stage_is : after.stage
    ≡ stage_after before.stage (cue_of before.drive e.frame) (fate_of e.frame e.outcome))
    (bytes_is : after.bytes
    ≡ kept_bytes_after before.stage (unit_room before.expected.room) (cue_of before.drive e.frame) before.bytes)
    (room : after.expected.room ≡ before.expected.room)
    (x : Result (Unit {0}) UnitFault)
    (fault_is : result_err x
    ≡ end_fault (length before.expected.records) after.bytes
    (ended before.stage (cue_of before.drive e.frame) (fate_of e.frame e.outcome)))
    (records_are : MatchResult x
    (λ _. after.expected.records
    ≡ known_end after.bytes (ended before.stage (cue_of before.drive e.frame) (fate_of e.frame e.outcome))
    before.expected.records)
    (λ _. after.expected.records ≡ before.expected.records))
  where
    abbrev c : Course
    c = course_after d no_course log

    abbrev now : Course
    now = course_step c (signal_of d e)

    abbrev told : Option RecordUnit
    told = unit_told c (signal_of d e)

    abbrev end : Option Ended
    end = ended c.stage (cue_of d e.frame) (fate_of e.frame e.outcome)

    abbrev size : ℕ
    size = before.expected.room

    end_is : ended before.stage (cue_of before.drive e.frame) (fate_of e.frame e.outcome) ≡ end
    end_is = rw (is.drive, is.stage) refl

    bytes_now : after.bytes ≡ take (unit_room size) now.bytes
    bytes_now =
        bytes_is ∙ rw (is.drive, is.stage, is.bytes) refl
        ∙ kept_right c.stage (unit_room size) (cue_of d e.frame) c.bytes (omega arith)

    course_now : course_after d no_course (log ++ e ∷ []) ≡ now
    course_now = course-append d no_course log (e ∷ [])

    fault_now : result_err x ≡ fault_of (length old) told
    fault_now =
        fault_is ∙ rw (records_size d old log before is, bytes_now, end_is)
        (kept_end (length old) size now.bytes end is.room) ∙ told_fault (length old) now.bytes end

    units_now : units_told d no_course (log ++ e ∷ []) ≡ units_told d no_course log ++ option_to_list told
    units_now =
        units-append d no_course log (e ∷ [])
        ∙ ap (λ (us : List RecordUnit). units_told d no_course log ++ us) (append-nil (option_to_list told))

    -- what is known after it
    pub take_known : IfOk x (λ _. IsEffectAfter d old (log ++ e ∷ []) after)
    take_known = by_result x fault_now records_are
      where
        read : fault_of (length old) told ≡ None →
            after.expected.records
            ≡ known_end after.bytes (ended before.stage (cue_of before.drive e.frame) (fate_of e.frame e.outcome))
            before.expected.records →
            IsEffectAfter d old (log ++ e ∷ []) after
        read sound records = record {
          reach = is.reach;
          drive = drive ∙ is.drive;
          stage = stage_is ∙ rw (is.drive, is.stage) refl ∙ ap (λ (b : Course). b.stage) (sym course_now);
          bytes = bytes_now
              ∙ ap (λ (b : Course). take (unit_room size) b.bytes) (sym course_now)
              ∙ ap (λ (n : ℕ). take (unit_room n) (course_after d no_course (log ++ e ∷ [])).bytes) (sym room);
          tape = is.tape;
          room = subst (λ (n : ℕ). length old ≤ n) (sym room) is.room;
          records = records
              ∙ rw (bytes_now, end_is) (known_kept (length old) size now.bytes end before.expected.records is.room
              (told_fault (length old) now.bytes end ∙ sound))
              ∙ told_known now.bytes end before.expected.records
              ∙ ap (after_told told) is.records
              ∙ sym (known_told told (known_by (units_told d no_course log) (map Some old)))
              ∙ sym (known_append (units_told d no_course log) (option_to_list told) (map Some old))
              ∙ ap (λ (us : List RecordUnit). known_by us (map Some old)) (sym units_now);
          clear = subst (AreClear (length old)) (sym units_now)
              (clear_append (length old) (units_told d no_course log) (option_to_list told) is.clear
              (clear_told (length old) told sound));
        }

        by_result : (y : Result (Unit {0}) UnitFault) → result_err y ≡ fault_of (length old) told →
            MatchResult y
            (λ _. after.expected.records
            ≡ known_end after.bytes (ended before.stage (cue_of before.drive e.frame) (fate_of e.frame e.outcome))
            before.expected.records)
            (λ _. after.expected.records ≡ before.expected.records) →
            IfOk y (λ _. IsEffectAfter d old (log ++ e ∷ []) after)
        by_result (Ok u) answer records = read (sym answer) records
        by_result (Err f) answer records = tt

    low : is_address d ≡ true
    low = le-leb d 30 is.reach

    -- and what is answered
    pub take_fault : (k : ℕ) → IsPrefix (host_loop k d) (log ++ e ∷ []) → (f : UnitFault) →
        (x ≡ Err f)
        ↔ ((w : RecordUnit) × EndsUnit (host_loop k d) log e w × (unit_fault (length old) w ≡ Some f))
    take_fault k goes f = (
      λ err. by_told told refl (sym fault_now ∙ ap (λ (y : Result (Unit {0}) UnitFault). result_err y) err),
      λ found.
          err_from x f
          (fault_now
          ∙ ap (fault_of (length old)) (ends_told k d low log e found.0 (faulty_writes (length old) found.0 f found.2)
          found.1)
          ∙ found.2),
    )
      where
        by_told : (o : Option RecordUnit) → told ≡ o → fault_of (length old) o ≡ Some f →
            (w : RecordUnit) × EndsUnit (host_loop k d) log e w × (unit_fault (length old) w ≡ Some f)
        by_told None same faulty = absurd (no_fault f faulty)
        by_told (Some w) same faulty = (w, told_ends k d low log e w goes same, faulty)

-- of the units that an entry ends, by any readings, all have one fault
pub one_fault : (k d n : ℕ) (log : List Entry) (e : Entry) (w v : RecordUnit) (f g : UnitFault) → d ≤ 30 →
    EndsUnit (host_loop k d) log e w → EndsUnit (host_loop k d) log e v → unit_fault n w ≡ Some f →
    unit_fault n v ≡ Some g → f ≡ g
one_fault k d n log e w v f g reach first second one other =
    let low = le-leb d 30 reach in
    let same : Some w ≡ Some v =
    sym (ends_told k d low log e w (faulty_writes n w f one) first)
    ∙ ends_told k d low log e v (faulty_writes n v g other) second in
    let unit : w ≡ v = cc in
    let both : Some f ≡ Some g = sym one ∙ ap (unit_fault n) unit ∙ other in
    cc

-- ---- what may stand in a record

module _ (records : Records) (whole : AreWhole records) (place : ℕ) (bytes : List ℕ) (on : place < length records)
    (stands : IsAllowedAs (get_or records place None) bytes) (long : length bytes ≡ 256) where
  abbrev tape : Tape
  tape = set (map filler records) place bytes

  tape_size : length tape ≡ length records
  tape_size = length-set (map filler records) place bytes ∙ length-map records filler

  here : record_at tape place ≡ bytes
  here = get_or-set_same (map filler records) place bytes [] (omega (arith, on, length-map records filler))

  there : (j : ℕ) → j < length records → j ≢ place → record_at tape j ≡ filler (get_or records j None)
  there j within other =
      get_or-set_other (map filler records) place j bytes [] other ∙ get_or-map filler records j None [] within

  sized : (j : ℕ) → j < length records → length (record_at tape j) ≡ 256
  sized j within = elim (cases_eq j place) [
    | inl same ↦ ap (λ (i : ℕ). length (record_at tape i)) same ∙ ap (λ (b : List ℕ). length b) here ∙ long
    | inr other ↦
        ap (λ (b : List ℕ). length b) (there j within other) ∙ filler_size (get_or records j None) (whole j)
  ]

  each : (j : ℕ) → j < length records → IsAllowedAs (get_or records j None) (record_at tape j)
  each j within = elim (cases_eq j place) [
    | inl same ↦
        subst (λ (i : ℕ). IsAllowedAs (get_or records i None) (record_at tape i)) (sym same)
        (subst (λ (b : List ℕ). IsAllowedAs (get_or records place None) b) (sym here) stands)
    | inr other ↦
        subst (λ (b : List ℕ). IsAllowedAs (get_or records j None) b) (sym (there j within other))
        (filler_stands (get_or records j None))
  ]

  some_tape : (new : Tape) × Allows records new × (record_at new place ≡ bytes)
  some_tape = (
    tape,
    record {
      shape = record {
        records = tape_size;
        bytes = λ j lt. sized j lt;
      };
      each = λ j lt. each j lt;
    },
    here,
  )

pub allows_right : (k d : ℕ) (old : Tape) (log : List Entry) (r : EffectReader) (place : ℕ) (bytes : List ℕ)
    (b : Bool) → place < length r.expected.records → length bytes ≡ 256 →
    MatchBool b (IsAllowedAs (get_or r.expected.records place None) bytes)
    (IsAllowedAs (get_or r.expected.records place None) bytes → ⊥) →
    IsEffectAfter d old log r → Reading (host_loop k d) log →
    (b ≡ true) ↔ ((new : Tape) × Effect (host_loop k d) old log new × (record_at new place ≡ bytes))
allows_right k d old log r place bytes true on long stands is reading = (
  λ e.
      let found = some_tape r.expected.records expected.whole place bytes on stands long in
      (found.0, (effect_told k d low log old found.0 reading).1 ((expected.tapes found.0).1 found.1), found.2),
  λ e. refl,
)
  where
    expected : IsExpectedAfter old (units_told d no_course log) r.expected.records
    expected = expected_of d old log r is

    low : is_address d ≡ true
    low = le-leb d 30 is.reach
allows_right k d old log r place bytes false on long stands is reading = (
  λ e. cc,
  λ found.
      let has = (expected.tapes found.0).0 ((effect_told k d low log old found.0 reading).0 found.1) in
      absurd (stands (subst (λ (x : List ℕ). IsAllowedAs (get_or r.expected.records place None) x) found.2
      (has.each place on))),
)
  where
    expected : IsExpectedAfter old (units_told d no_course log) r.expected.records
    expected = expected_of d old log r is

    low : is_address d ≡ true
    low = le-leb d 30 is.reach

-- a tape each record of which stands so on some tape that the log may have made is one of these
pub effect_whole : (k d : ℕ) (old : Tape) (log : List Entry) (r : EffectReader) (new : Tape) → IsEffectAfter d old log r →
    Reading (host_loop k d) log → IsTape (length old) new →
    ((y : ℕ) → y < length old → (made : Tape) × Effect (host_loop k d) old log made × (record_at made y ≡ record_at new y)) →
    Effect (host_loop k d) old log new
effect_whole k d old log r new is reading shape each =
    (effect_told k d low log old new reading).1 ((expected.tapes new).1 allowed)
  where
    expected : IsExpectedAfter old (units_told d no_course log) r.expected.records
    expected = expected_of d old log r is

    low : is_address d ≡ true
    low = le-leb d 30 is.reach

    size : length r.expected.records ≡ length old
    size = records_size d old log r is

    stands : (y : ℕ) → y < length r.expected.records → IsAllowedAs (get_or r.expected.records y None) (record_at new y)
    stands y on =
        let some = each y (omega (arith, on, size)) in
        subst (λ (x : List ℕ). IsAllowedAs (get_or r.expected.records y None) x) some.2
        (((expected.tapes some.0).0 ((effect_told k d low log old some.0 reading).0 some.1)).each y on)

    allowed : Allows r.expected.records new
    allowed = record { shape = subst (λ (n : ℕ). IsTape n new) (sym size) shape; each = stands }
