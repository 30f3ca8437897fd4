-- What is known of the records of a tape, unit by unit: the tapes that the units may have left are exactly
-- those that it allows.
use Rattle.std.proofs.Common.{◌≡◌, ◌≢◌, ◌<◌, ◌≤◌, ◌∙◌, ◌+◌, ◌/◌, ◌%◌, ◌++◌, ◌⊎◌, ◌==◌, inl, inr, ℕ, suc, zero, Bool, true, false, List, [], ◌∷◌, Option, Some, None, length, take, drop, get_or, set, map, replicate, nat_le, nat_lt, Result, Ok, Err, refl, sym, ap, subst, arith, length-set, get_or-set_same, get_or-set_other}
use Rattle.std.specs.Prelude.{◌↔◌, if◌then◌else◌, MatchBool, MatchResult, IfOk}
use Rattle.std.specs.Result.{result_err}
use Rattle.std.proofs.lemmas.List.{length-take-le, length-map, length-drop, get_or-map, get_or-take, get_or-drop, get_or_past, ext_get_or, nil_from_length}
use Rattle.std.proofs.lemmas.Bool.{cases_lt, cases_eq, and_parts, or_cases, eqb-true, leb-true}
use Rattle.lif_model.specs.Tape.{Tape, IsTape, record_at}
use Rattle.lif_model.specs.Stops.{Torn}
use Rattle.lif_model.specs.Transfers.{Replaced, PartlyReplaced, records_of, cut_up, all_pieces, full_pieces}
use Rattle.lif_model.proofs.Runs.{replaced_none, partly_replaced, torn_next, torn_one}
use Rattle.loop_model.specs.Units.{RecordUnit}
use Rattle.loop_model.specs.Effect.{is_good, UnitEffect}
use Rattle.loop_model.proofs.EffectLaws.{UnitsEffect-append}
use Rattle.trace_readers.specs.declared.expected.UnitFault.{UnitFault}
use Rattle.trace_readers.specs.declared.expected.UnitFault.TheVariants as fault
use Rattle.trace_readers.specs.Expected.{IsAllowedAs, Allows, AreWhole, IsExpectedAfter, lie_on, write_fault, known_after, unit_fault, after_unit, write_unit, IsToldBy}
use Rattle.trace_readers.proofs.KnownLemmas.{Laid, laid_in, by_place, length-cut, length-full, whole_count, pieces_whole}

abbrev Records : Type 0
Records = List (Option (List ℕ))

-- ---- what may stand

-- some bytes that may stand in a record
pub filler : Option (List ℕ) → List ℕ
filler None = replicate 256 0
filler (Some bytes) = bytes

pub filler_stands : (o : Option (List ℕ)) → IsAllowedAs o (filler o)
unfolding filler
filler_stands None = tt
filler_stands (Some bytes) = refl

pub filler_size : (o : Option (List ℕ)) → ((bytes : List ℕ) → o ≡ Some bytes → length bytes ≡ 256) →
    length (filler o) ≡ 256
unfolding filler
filler_size None whole = refl
filler_size (Some bytes) whole = whole bytes refl

some_same : {a b : List ℕ} → Some a ≡ Some b → a ≡ b
some_same e = cc

-- what is said of a record, for one that is the same
stands_too : {o p : Option (List ℕ)} {x y : List ℕ} → o ≡ p → x ≡ y → IsAllowedAs o x → IsAllowedAs p y
stands_too {o} {p} {x} {y} known same stands =
    subst (λ (q : Option (List ℕ)). IsAllowedAs q y) known (subst (λ (z : List ℕ). IsAllowedAs o z) same stands)

size_too : {x y : List ℕ} → x ≡ y → length y ≡ 256 → length x ≡ 256
size_too same size = ap (λ (z : List ℕ). length z) same ∙ size

-- ---- a unit with status 0

module _
    (first : ℕ)
    (pieces : List (List ℕ))
    (r s : Records)
    (whole : AreWhole r)
    (long : (i : ℕ) → i < length pieces → length (get_or pieces i []) ≡ 256)
    (fits : (length pieces ≡ 0) ⊎ (first + length pieces ≤ length r))
    (laid : Laid first (length pieces) (λ i. Some (get_or pieces i [])) None r s)
  where
    inside : (i : ℕ) → i < length pieces → first + i < length r
    inside i lt = elim fits [
      | inl none ↦ absurd (omega (arith, lt, none))
      | inr all ↦ omega (arith, lt, all)
    ]

    laid_whole : AreWhole s
    laid_whole =
        by_place (λ k. (bytes : List ℕ) → get_or s k None ≡ Some bytes → length bytes ≡ 256) first (length pieces)
        (λ k lt bytes is. whole k bytes (sym (laid.before k lt) ∙ is))
        (λ i lt bytes is.
        let same : Some (get_or pieces i []) ≡ Some bytes = sym (laid.within i lt) ∙ is in
        size_too (sym (some_same same)) (long i lt))
        (λ k le bytes is. whole k bytes (sym (laid.after k le) ∙ is))

    good_on : (b new : Tape) → Allows r b → Replaced first pieces b new → Allows s new
    good_on b new had put = record {
      shape = record {
        records = put.records ∙ had.shape.records ∙ sym laid.size;
        bytes = by_place (λ k. k < length s → length (record_at new k) ≡ 256) first (length pieces)
            (λ k lt on. size_too (put.before k lt) (had.shape.bytes k (omega (arith, on, laid.size))))
            (λ i lt on. size_too (put.within i lt) (long i lt))
            (λ k le on. size_too (put.behind k le) (had.shape.bytes k (omega (arith, on, laid.size))));
      };
      each = by_place (λ k. k < length s → IsAllowedAs (get_or s k None) (record_at new k)) first (length pieces)
          (λ k lt on.
          stands_too (sym (laid.before k lt)) (sym (put.before k lt)) (had.each k (omega (arith, on, laid.size))))
          (λ i lt on. stands_too (sym (laid.within i lt)) (sym (put.within i lt)) refl)
          (λ k le on.
          stands_too (sym (laid.after k le)) (sym (put.behind k le)) (had.each k (omega (arith, on, laid.size))));
    }

    -- some tape before it
    fillers : List (List ℕ)
    fillers = take (length pieces) (drop first (map filler r))

    fillers_long : length fillers ≡ length pieces
    unfolding fillers
    fillers_long = elim fits [
      | inl none ↦ subst (λ (m : ℕ). length (take m (drop first (map filler r))) ≡ m) (sym none) refl
      | inr all ↦
          length-take-le (length pieces) (drop first (map filler r))
          (omega (arith, all, length-drop first (map filler r), length-map r filler))
    ]

    abbrev filler_at : ℕ → List ℕ
    filler_at i = filler (get_or r (first + i) None)

    fillers_are : (i : ℕ) → i < length pieces → get_or fillers i [] ≡ filler_at i
    unfolding fillers
    fillers_are i lt =
        get_or-take (length pieces) (drop first (map filler r)) i [] lt ∙ get_or-drop first (map filler r) i []
        ∙ get_or-map filler r (first + i) None [] (inside i lt)

    abbrev before_of : Tape → Tape
    before_of new = take first new ++ fillers ++ drop (first + length pieces) new

    old_of : (new : Tape) → Allows s new → Laid first (length pieces) filler_at [] new (before_of new)
    old_of new has = laid_in first (length pieces) filler_at [] fillers new fillers_long fillers_are room
      where
        room : (length pieces ≡ 0) ⊎ (first + length pieces ≤ length new)
        room = elim fits [
          | inl none ↦ inl none
          | inr all ↦ inr (omega (arith, all, laid.size, has.shape.records))
        ]

    old_allowed : (new : Tape) → Allows s new → Allows r (before_of new)
    old_allowed new has = record {
      shape = record {
        records = old.size ∙ has.shape.records ∙ laid.size;
        bytes = by_place (λ k. k < length r → length (record_at (before_of new) k) ≡ 256) first (length pieces)
            (λ k lt on. size_too (old.before k lt) (has.shape.bytes k (omega (arith, on, laid.size))))
            (λ i lt on. size_too (old.within i lt) (filler_size (get_or r (first + i) None) (whole (first + i))))
            (λ k le on. size_too (old.after k le) (has.shape.bytes k (omega (arith, on, laid.size))));
      };
      each =
          by_place (λ k. k < length r → IsAllowedAs (get_or r k None) (record_at (before_of new) k)) first (length pieces)
          (λ k lt on. stands_too (laid.before k lt) (sym (old.before k lt)) (has.each k (omega (arith, on, laid.size))))
          (λ i lt on. stands_too refl (sym (old.within i lt)) (filler_stands (get_or r (first + i) None)))
          (λ k le on. stands_too (laid.after k le) (sym (old.after k le)) (has.each k (omega (arith, on, laid.size))));
    }
      where
        old : Laid first (length pieces) filler_at [] new (before_of new)
        old = old_of new has

    good_back : (new : Tape) → Allows s new → (b : Tape) × Allows r b × Replaced first pieces b new
    good_back new has = (
      before_of new,
      old_allowed new has,
      record {
        records = sym old.size;
        within = λ i lt.
            stands_too (laid.within i lt) refl (has.each (first + i) (omega (arith, inside i lt, laid.size)));
        before = λ k lt. sym (old.before k lt);
        behind = λ k le. sym (old.after k le);
      },
    )
      where
        old : Laid first (length pieces) filler_at [] new (before_of new)
        old = old_of new has

-- ---- another unit that writes

none_put : (first : ℕ) (t u : Tape) → Replaced first [] t u → u ≡ t
none_put first t u done = ext_get_or [] u t done.records (λ k lt. elim (cases_lt k first) [
  | inl less ↦ done.before k less
  | inr more ↦ done.behind k (omega (arith, more))
])

-- what is torn after so many of the pieces
abbrev TornAfter : ℕ → ℕ → List (List ℕ) → Tape → Tape → Type 0
TornAfter first count pieces written new =
    MatchBool (nat_lt count (length pieces)) (Torn (first + count) written new) (new ≡ written)

none_partly : (first : ℕ) (b new : Tape) → PartlyReplaced first [] b new → new ≡ b
none_partly first b new put = same_all put.count put.in_range put.written put.replaced put.torn
  where
    same_all : (count : ℕ) → count ≤ 0 → (written : Tape) → Replaced first (take count []) b written →
        TornAfter first count [] written new → new ≡ b
    same_all zero le written put is = is ∙ none_put first b written put
    same_all (suc count) le written put is = absurd (omega (arith, le))

none_partly_back : (first : ℕ) (b new : Tape) → new ≡ b → PartlyReplaced first [] b new
none_partly_back first b new same =
    subst (λ (t : Tape). PartlyReplaced first [] b t) (sym same)
    (partly_replaced first 0 [] b b (replaced_none first b))

-- a record of the tape that is torn, and one past it
torn_from : (first : ℕ) (piece : List ℕ) (b new : Tape) → length piece ≡ 256 →
    ((k : ℕ) → k < length b → length (record_at b k) ≡ 256) →
    PartlyReplaced first (piece ∷ []) b new → Torn first b new
torn_from first piece b new long shape put = elim (cases_lt first (length b)) [
  | inl on ↦ torn_one first piece b new (long ∙ sym (shape first on)) on put
  | inr past ↦ go past put.count put.in_range put.written put.replaced put.torn
]
  where
    here : first + 0 ≡ first
    here = omega arith

    go : length b ≤ first → (count : ℕ) → count ≤ 1 → (written : Tape) →
        Replaced first (take count (piece ∷ [])) b written →
        TornAfter first count (piece ∷ []) written new → Torn first b new
    go past zero le written done torn =
        subst (λ (k : ℕ). Torn k b new) here
        (subst (λ (t : Tape). Torn (first + 0) t new) (none_put first b written done) torn)
    go past (suc zero) le written done is =
        let gone = get_or_past written (first + 0) [] (omega (arith, here, past, done.records)) in
        let no : length piece ≡ 0 = ap (λ (x : List ℕ). length x) (sym (done.within 0 (omega arith)) ∙ gone) in
        absurd (omega (arith, no, long))
    go past (suc (suc count)) le written done torn = absurd (omega (arith, le))

torn_back : (first : ℕ) (piece : List ℕ) (b new : Tape) → Torn first b new → PartlyReplaced first (piece ∷ []) b new
torn_back first piece b new torn =
    let here : first + 0 ≡ first = omega arith in
    torn_next first 0 (piece ∷ []) b b (omega arith) (replaced_none first b) new
    (subst (λ (k : ℕ). Torn k b new) (sym here) torn)

-- nothing is known of the record `first`
free_at : (r : Records) (first : ℕ) → get_or (set r first None) first None ≡ None
free_at r first = elim (cases_lt first (length r)) [
  | inl on ↦ get_or-set_same r first None None on
  | inr past ↦ get_or_past (set r first None) first None (omega (arith, past, length-set r first None))
]

module _ (first : ℕ) (r : Records) (whole : AreWhole r) where
  freed_at : (k : ℕ) → k ≡ first → get_or (set r first None) k None ≡ None
  freed_at k e = ap (λ (j : ℕ). get_or (set r first None) j None) e ∙ free_at r first

  kept : (k : ℕ) → k ≢ first → get_or (set r first None) k None ≡ get_or r k None
  kept k ne = get_or-set_other r first k None None ne

  size : length (set r first None) ≡ length r
  size = length-set r first None

  freed_whole : AreWhole (set r first None)
  freed_whole k bytes is = elim (cases_eq k first) [
    | inl e ↦ let no : None ≡ Some bytes = sym (freed_at k e) ∙ is in cc
    | inr ne ↦ whole k bytes (sym (kept k ne) ∙ is)
  ]

  free_on : (b new : Tape) → Allows r b → Torn first b new → Allows (set r first None) new
  free_on b new had torn = record {
    shape = record {
      records = torn.records ∙ had.shape.records ∙ sym size;
      bytes = λ k lt. sized k (omega (arith, lt, size));
    };
    each = λ k lt. stands k (omega (arith, lt, size));
  }
    where
      sized : (k : ℕ) → k < length r → length (record_at new k) ≡ 256
      sized k on = elim (cases_eq k first) [
        | inl e ↦
            ap (λ (j : ℕ). length (record_at new j)) e ∙ torn.bytes
            ∙ ap (λ (j : ℕ). length (record_at b j)) (sym e) ∙ had.shape.bytes k on
        | inr ne ↦ size_too (torn.elsewhere k ne) (had.shape.bytes k on)
      ]

      stands : (k : ℕ) → k < length r → IsAllowedAs (get_or (set r first None) k None) (record_at new k)
      stands k on = elim (cases_eq k first) [
        | inl e ↦ subst (λ (o : Option (List ℕ)). IsAllowedAs o (record_at new k)) (sym (freed_at k e)) tt
        | inr ne ↦ stands_too (sym (kept k ne)) (sym (torn.elsewhere k ne)) (had.each k on)
      ]

  abbrev any : List ℕ
  any = filler (get_or r first None)

  -- some tape before it
  abbrev filled : Tape → Tape
  filled new = set new first any

  module _ (new : Tape) (has : Allows (set r first None) new) where
    as_long : length new ≡ length r
    as_long = has.shape.records ∙ size

    filled_at : (k : ℕ) → k ≡ first → k < length r → record_at (filled new) k ≡ any
    filled_at k e on =
        ap (λ (j : ℕ). record_at (filled new) j) e
        ∙ get_or-set_same new first any [] (omega (arith, e, on, as_long))

    sized : (k : ℕ) → k < length r → length (record_at (filled new) k) ≡ 256
    sized k on = elim (cases_eq k first) [
      | inl e ↦ size_too (filled_at k e on) (filler_size (get_or r first None) (whole first))
      | inr ne ↦ size_too (get_or-set_other new first k any [] ne) (has.shape.bytes k (omega (arith, on, size)))
    ]

    stands : (k : ℕ) → k < length r → IsAllowedAs (get_or r k None) (record_at (filled new) k)
    stands k on = elim (cases_eq k first) [
      | inl e ↦
          stands_too (ap (λ (j : ℕ). get_or r j None) (sym e)) (sym (filled_at k e on))
          (filler_stands (get_or r first None))
      | inr ne ↦
          stands_too (kept k ne) (sym (get_or-set_other new first k any [] ne))
          (has.each k (omega (arith, on, size)))
    ]

    same_size : length (record_at new first) ≡ length (record_at (filled new) first)
    same_size = elim (cases_lt first (length new)) [
      | inl on ↦
          has.shape.bytes first (omega (arith, on, has.shape.records))
          ∙ sym (sized first (omega (arith, on, as_long)))
      | inr past ↦
          let gone = get_or_past (filled new) first [] (omega (arith, past, length-set new first any)) in
          ap (λ (x : List ℕ). length x) (get_or_past new first [] past ∙ sym gone)
    ]

    free_back : (b : Tape) × Allows r b × Torn first b new
    free_back = (
      filled new,
      record {
        shape = record { records = length-set new first any ∙ as_long; bytes = sized };
        each = stands;
      },
      record {
        records = sym (length-set new first any);
        bytes = same_size;
        elsewhere = λ k ne. sym (get_or-set_other new first k any [] ne);
      },
    )

-- ---- any unit

-- what is known goes from r to s by this effect
record Leads (r s : Records) (effect : Tape → Tape → Type 0) : Type 0 where
  whole : AreWhole s
  tapes : (new : Tape) → ((b : Tape) × Allows r b × effect b new) ↔ Allows s new

none_from : (b : Bool) (f : UnitFault) → (if b then None else Some f) ≡ None → b ≡ true
none_from true f e = refl
none_from false f e = cc

module _ (first : ℕ) (bytes : List ℕ) (r : Records) (sound : write_fault (length r) first bytes true ≡ None) where
  abbrev run : List (List ℕ)
  run = all_pieces bytes

  tests : (length bytes % 256 ≡ 0) × ((length bytes ≡ 0) ⊎ (first + length bytes / 256 ≤ length r))
  tests =
      let lies = none_from (lie_on (length r) first bytes) fault.BadUnit sound in
      let parts = and_parts (length bytes % 256 == 0) _ lies in (
        eqb-true (length bytes % 256) 0 parts.0,
        elim (or_cases (length bytes == 0) _ parts.1) [
          | inl none ↦ inl (eqb-true (length bytes) 0 none)
          | inr all ↦ inr (leb-true (first + length bytes / 256) (length r) all)
        ],
      )

  count : length run ≡ length bytes / 256
  count = length-cut (records_of bytes) bytes ∙ whole_count bytes tests.0

  fits : (length run ≡ 0) ⊎ (first + length run ≤ length r)
  fits = elim tests.1 [
    | inl none ↦ inl (omega (arith, count, none))
    | inr all ↦ inr (omega (arith, count, all))
  ]

  long : (i : ℕ) → i < length run → length (get_or run i []) ≡ 256
  long i lt =
      let same = whole_count bytes tests.0 in
      pieces_whole (records_of bytes) bytes (omega (arith, same)) i
      (omega (arith, lt, length-cut (records_of bytes) bytes))

  laid : Laid first (length run) (λ i. Some (get_or run i [])) None r (known_after first bytes true r)
  laid =
      laid_in first (length run) (λ i. Some (get_or run i [])) None (map Some run) r (length-map run Some)
      (λ i lt. get_or-map Some run i [] None lt) fits

  good_leads : AreWhole r → Leads r (known_after first bytes true r) (Replaced first run)
  good_leads whole = record {
    whole = laid_whole first run r _ whole long fits laid;
    tapes = λ new. (
      λ x. good_on first run r _ whole long fits laid x.0 new x.1 x.2,
      good_back first run r _ whole long fits laid new,
    );
  }

abbrev IsOne : List (List ℕ) → Type 0
IsOne pieces = (piece : List ℕ) × (length piece ≡ 256) × (pieces ≡ piece ∷ [])

-- with no piece or one
abbrev Frees : ℕ → Records → List (List ℕ) → Type 0
Frees first r pieces = Leads r (if length pieces == 1 then set r first None else r) (PartlyReplaced first pieces)

other_by : (first : ℕ) (r : Records) (pieces : List (List ℕ)) → AreWhole r → (pieces ≡ []) ⊎ IsOne pieces →
    Frees first r pieces
other_by first r pieces whole (inl none) = subst (Frees first r) (sym none) (record {
  whole = whole;
  tapes = λ new. (
    λ x. subst (λ (t : Tape). Allows r t) (sym (none_partly first x.0 new x.2)) x.1,
    λ a. (new, a, none_partly_back first new new refl),
  );
})
other_by first r pieces whole (inr one) = subst (Frees first r) (sym one.2) (record {
  whole = freed_whole first r whole;
  tapes = λ new. (
    λ x.
        let shape : (k : ℕ) → k < length x.0 → length (record_at x.0 k) ≡ 256 =
        λ k on. x.1.shape.bytes k (omega (arith, on, x.1.shape.records)) in
        free_on first r whole x.0 new x.1 (torn_from first one.0 x.0 new one.1 shape x.2),
    λ a. let t = free_back first r whole new a in (t.0, t.1, torn_back first one.0 t.0 new t.2),
  );
})

other_leads : (first : ℕ) (bytes : List ℕ) (r : Records) → AreWhole r → write_fault (length r) first bytes false ≡ None →
    Leads r (known_after first bytes false r) (PartlyReplaced first (full_pieces bytes))
other_leads first bytes r whole sound =
    let count = length (full_pieces bytes) in
    let few : count ≤ 1 = leb-true count 1 (none_from (nat_le count 1) fault.Unclear sound) in
    other_by first r (full_pieces bytes) whole (elim (cases_eq (length bytes / 256) 0) [
      | inl none ↦ inl (nil_from_length (full_pieces bytes) (omega (arith, none, length-full bytes)))
      | inr some ↦
          let one : length bytes / 256 ≡ 1 = omega (arith, few, some, length-full bytes) in
          inr (take 256 bytes, length-take-le 256 bytes (omega (arith, one)), ap (λ (n : ℕ). cut_up n bytes) one)
    ])

leads : (writes good : Bool) (first : ℕ) (bytes : List ℕ) (r : Records) → AreWhole r →
    (if writes then write_fault (length r) first bytes good else None) ≡ None →
    Leads r (if writes then known_after first bytes good r else r) (λ old new. MatchBool writes
    (MatchBool good (Replaced first (all_pieces bytes) old new) (PartlyReplaced first (full_pieces bytes) old new))
    (new ≡ old))
leads true true first bytes r whole sound = good_leads first bytes r sound whole
leads true false first bytes r whole sound = other_leads first bytes r whole sound
leads false good first bytes r whole sound = record {
  whole = whole;
  tapes = λ new. (λ x. subst (λ (t : Tape). Allows r t) (sym x.2) x.1, λ a. (new, a, refl));
}

-- ---- the law

-- before any unit each record is known
pub expected_first : (n : ℕ) (old : Tape) → IsTape n old → IsExpectedAfter old [] (map Some old)
expected_first n old tape = record {
  whole = λ k bytes is. known k bytes is;
  tapes = λ new. (λ same. subst (λ (t : Tape). Allows (map Some old) t) (sym same) itself, only new);
}
  where
    size : length (map Some old) ≡ length old
    size = length-map old Some

    at : (k : ℕ) → k < length old → get_or (map Some old) k None ≡ Some (record_at old k)
    at k on = get_or-map Some old k [] None on

    known : (k : ℕ) (bytes : List ℕ) → get_or (map Some old) k None ≡ Some bytes → length bytes ≡ 256
    known k bytes is = elim (cases_lt k (length old)) [
      | inl on ↦
          let same : Some (record_at old k) ≡ Some bytes = sym (at k on) ∙ is in
          size_too (sym (some_same same)) (tape.bytes k (omega (arith, on, tape.records)))
      | inr past ↦
          let no : None ≡ Some bytes = sym (get_or_past (map Some old) k None (omega (arith, past, size))) ∙ is in
          cc
    ]

    itself : Allows (map Some old) old
    itself = record {
      shape = record {
        records = sym size;
        bytes = λ k lt. tape.bytes k (omega (arith, lt, size, tape.records));
      };
      each = λ k lt. stands_too (sym (at k (omega (arith, lt, size)))) refl refl;
    }

    only : (new : Tape) → Allows (map Some old) new → new ≡ old
    only new has =
        ext_get_or [] new old (has.shape.records ∙ size)
        (λ k lt. stands_too (at k (omega (arith, lt, has.shape.records, size))) refl
        (has.each k (omega (arith, lt, has.shape.records))))

-- one unit more
pub expected_more : (old : Tape) (units : List RecordUnit) (w : RecordUnit) (records : Records) →
    unit_fault (length records) w ≡ None → IsExpectedAfter old units records →
    IsExpectedAfter old (units ++ w ∷ []) (after_unit w records)
expected_more old units w records sound was = record {
  whole = step.whole;
  tapes = λ new. (
    λ e.
        let s = (UnitsEffect-append units (w ∷ []) old new).0 e in
        (step.tapes new).0 (s.0, (was.tapes s.0).0 s.1, subst (λ (t : Tape). UnitEffect w s.0 t) (sym s.2.2) s.2.1),
    λ a.
        let s = (step.tapes new).1 a in
        (UnitsEffect-append units (w ∷ []) old new).1 (s.0, (was.tapes s.0).1 s.1, (new, s.2, refl)),
  );
}
  where
    step : Leads records (after_unit w records) (UnitEffect w)
    step = leads w.writes (is_good w.status) w.first w.bytes records was.whole sound

-- ---- what a write answers

freed_size : (one : Bool) (first : ℕ) (r : Records) → length (if one then set r first None else r) ≡ length r
freed_size true first r = length-set r first None
freed_size false first r = refl

pub size_after : (first : ℕ) (bytes : List ℕ) (good : Bool) (r : Records) → write_fault (length r) first bytes good ≡ None →
    length (known_after first bytes good r) ≡ length r
size_after first bytes true r sound = (laid first bytes r sound).size
size_after first bytes false r sound = freed_size (length (full_pieces bytes) == 1) first r

pub told_size : (first : ℕ) (bytes : List ℕ) (good : Bool) (r s : Records) (x : Result (Unit {0}) UnitFault) →
    result_err x ≡ write_fault (length r) first bytes good →
    MatchResult x (λ _. s ≡ known_after first bytes good r) (λ _. s ≡ r) → length s ≡ length r
told_size first bytes good r s (Ok u) answer is =
    ap (λ (rs : Records). length rs) is ∙ size_after first bytes good r (sym answer)
told_size first bytes good r s (Err e) answer is = ap (λ (rs : Records). length rs) is

pub told_tapes : (first : ℕ) (bytes : List ℕ) (good : Bool) (r s : Records) (x : Result (Unit {0}) UnitFault) →
    result_err x ≡ write_fault (length r) first bytes good →
    MatchResult x (λ _. s ≡ known_after first bytes good r) (λ _. s ≡ r) →
    IfOk x (λ _. IsToldBy first bytes good r s)
told_tapes first bytes good r s (Ok u) answer is = λ old units status same was.
    let sound = ap (write_fault (length r) first bytes) same ∙ sym answer in
    let all = expected_more old units (write_unit first bytes status) r sound was in
    subst (IsExpectedAfter old (units ++ write_unit first bytes status ∷ []))
    (ap (λ (g : Bool). known_after first bytes g r) same ∙ sym is) all
told_tapes first bytes good r s (Err e) answer is = tt
