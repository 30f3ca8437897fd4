-- A send of records that breaks off: fewer data frames come, or the last one with another byte. Whole records before it
-- stand as they were sent, and at most one record more was written, with any bytes.
use Rattle.std.proofs.Common.{◌≡◌, ◌<◌, ◌≤◌, ◌+◌, ◌*◌, ◌++◌, inl, inr, ℕ, zero, suc, Bool, List, [], ◌∷◌, length, get_or, set, take, drop, refl, sym, ap, subst, ◌∙◌, arith, ⊎_elim, length-set, get_or-set_same, get_or-set_other, length-append, false}
use Rattle.std.specs.Prelude.{Some, MatchBool, nat_lt}
use Rattle.std.proofs.lemmas.Bool.{cases_eq, cases_lt, lt-ltb, lt-leb}
use Rattle.std.proofs.lemmas.List.{get_or_append_left, take-append-le, take-take, get_or-drop, ext_get_or, length-take-le, length-drop, length-map, take_all, get_or-take}
use Rattle.std.proofs.Math.Seq.{get_or-append_seam}
use Rattle.lif_model.specs.Tape.{Tape, IsTape, record_at}
use Rattle.lif_model.specs.Stops.{Torn}
use Rattle.lif_model.specs.Transfers.{Replaced, PartlyReplaced, cut_up}
use Rattle.lif_model.proofs.Runs.{torn_next, partly_replaced}
use Rattle.il_ports.specs.Media.{MediumView, IsMedium}
use Rattle.il_frames.specs.declared.frame.Frame.{Frame}
use Rattle.il_frames.specs.Frames.{byte_of}
use Rattle.il_device.specs.declared.device.Out.{Out}
use Rattle.il_drive.specs.State.{DriveView}
use Rattle.il_drive.specs.Runs.{Ran, AllData, bytes_of}
use Rattle.il_drive.proofs.Beginning.{write_message}
use Rattle.il_drive.specs.Resting.{IsFree, HasKept}
use Rattle.il_drive.proofs.ExchangesAddressed.{unl, rfc, lad}
use Rattle.il_drive.proofs.ExchangesWriting.{HasSentOut, left_partly, writes_run}

-- ---- one piece that is another

module _ (first j : ℕ) (pieces : List (List ℕ)) (other : List ℕ) (t : Tape) (n : ℕ) (tape : IsTape n t) (fits : first + length pieces ≤ n) (more : j < length pieces) (long : length other ≡ 256) where
  abbrev changed : List (List ℕ)
  changed = take j pieces ++ other ∷ []

  so_many : length (take j pieces) ≡ j
  so_many = length-take-le j pieces (omega (arith, more))

  one_more : length changed ≡ j + 1
  one_more = length-append (take j pieces) (other ∷ []) ∙ omega (arith, so_many)

  -- the tape before that piece was written
  abbrev without : Tape → Tape
  without u = set u (first + j) (record_at t (first + j))

  before_it : (u : Tape) → Replaced first changed t u → Replaced first (take j pieces) t (without u)
  before_it u done = record {
    records = length-set u (first + j) (record_at t (first + j)) ∙ done.records;
    within = λ i lt.
        get_or-set_other u (first + j) (first + i) (record_at t (first + j)) [] (λ e. absurd (omega (arith, e, lt, so_many)))
        ∙ done.within i (omega (arith, lt, one_more, so_many)) ∙ get_or_append_left (take j pieces) (other ∷ []) [] i lt;
    before = λ k lt. get_or-set_other u (first + j) k (record_at t (first + j)) [] (λ e. absurd (omega (arith, e, lt))) ∙ done.before k lt;
    behind = λ k le. elim (cases_eq k (first + j)) [
      | inl e ↦
          ap (record_at (without u)) e ∙ get_or-set_same u (first + j) (record_at t (first + j)) [] (omega (arith, more, fits, done.records, tape.records)) ∙ ap (record_at t) (sym e)
      | inr ne ↦
          get_or-set_other u (first + j) k (record_at t (first + j)) [] (λ e. ne e)
          ∙ done.behind k (omega (arith, le, ne, one_more, so_many))
    ];
  }

  torn_by_it : (u : Tape) → Replaced first changed t u → Torn (first + j) (without u) u
  torn_by_it u done = record {
    records = sym (length-set u (first + j) (record_at t (first + j)));
    bytes =
        ap length (done.within j (omega (arith, one_more)) ∙ ap (λ k. get_or changed k []) (sym so_many) ∙ get_or-append_seam (take j pieces) other [] []) ∙ long
        ∙ sym (ap length (get_or-set_same u (first + j) (record_at t (first + j)) [] (omega (arith, more, fits, done.records, tape.records))) ∙ tape.bytes (first + j) (omega (arith, more, fits)));
    elsewhere = λ k ne. sym (get_or-set_other u (first + j) k (record_at t (first + j)) [] (λ e. ne e));
  }

  -- what writes of the changed pieces leave is among what those of the pieces may leave
  pub changed_partly : (u : Tape) → PartlyReplaced first changed t u → PartlyReplaced first pieces t u
  changed_partly u part = elim (cases_lt part.count (j + 1)) [
    | inl lt ↦
        let few : take part.count changed ≡ take part.count pieces = take-append-le part.count (take j pieces) (other ∷ []) (omega (arith, lt, so_many)) ∙ take-take part.count j pieces (omega (arith, lt)) in
        torn_next first part.count pieces t part.written (omega (arith, lt, more)) (subst (λ ps. Replaced first ps t part.written) few part.replaced) u
        (subst (λ (b : Bool). MatchBool b (Torn (first + part.count) part.written u) (u ≡ part.written)) (lt-ltb part.count (length changed) (omega (arith, lt, one_more))) part.torn)
    | inr ge ↦
        let whole : take part.count changed ≡ changed = take_all part.count changed (omega (arith, ge, one_more)) in
        let all : Replaced first changed t part.written = subst (λ ps. Replaced first ps t part.written) whole part.replaced in
        let same : u ≡ part.written = subst (λ (b : Bool). MatchBool b (Torn (first + part.count) part.written u) (u ≡ part.written)) (no_less part.count (length changed) (omega (arith, ge, one_more))) part.torn in
        torn_next first j pieces t (without part.written) more (before_it part.written all) u (subst (λ x. Torn (first + j) (without part.written) x) (sym same) (torn_by_it part.written all))
  ]
    where
      no_less : (a b : ℕ) → b ≤ a → nat_lt a b ≡ false
      no_less a b le = lt-leb (suc a) b (omega (arith, le))

-- no piece at all
nothing_partly : (first : ℕ) (pieces : List (List ℕ)) (t u : Tape) → PartlyReplaced first [] t u → PartlyReplaced first pieces t u
nothing_partly first pieces t u part =
    let none : part.count ≡ 0 = omega (arith, part.in_range) in
    let same : u ≡ part.written = subst (λ c. MatchBool (nat_lt c 0) (Torn (first + c) part.written u) (u ≡ part.written)) none part.torn in
    let done : Replaced first (take 0 pieces) t part.written = subst (λ c. Replaced first (take c []) t part.written) none part.replaced in
    partly_replaced first 0 pieces t u (subst (Replaced first (take 0 pieces) t) (sym same) done)

-- ---- bytes that are as they were sent but for the last

abbrev pub AsSent : List ℕ → List ℕ → Type 0
AsSent came sent = (i : ℕ) → suc i < length came → get_or came i 0 ≡ get_or sent i 0

cut_changed : (j k : ℕ) (came sent : List ℕ) → 256 * (j + 1) ≤ length came → j < k → 256 * k ≤ length sent → AsSent came sent
    → (other : List ℕ) × (length other ≡ 256) × (cut_up (suc j) came ≡ take j (cut_up k sent) ++ other ∷ [])
cut_changed zero k came sent enough lt long as_sent = (take 256 came, length-take-le 256 came (omega (arith, enough)), refl)
cut_changed (suc j) zero came sent enough lt long as_sent = absurd (omega (arith, lt))
cut_changed (suc j) (suc k) came sent enough lt long as_sent =
    let one : length (take 256 came) ≡ 256 = length-take-le 256 came (omega (arith, enough)) in
    let two : length (take 256 sent) ≡ 256 = length-take-le 256 sent (omega (arith, long)) in
    let same : take 256 came ≡ take 256 sent =
    ext_get_or 0 (take 256 came) (take 256 sent) (one ∙ sym two)
    (λ i lt. get_or-take 256 came i 0 (omega (arith, lt, one)) ∙ as_sent i (omega (arith, lt, one, enough)) ∙ sym (get_or-take 256 sent i 0 (omega (arith, lt, one)))) in
    let more =
    cut_changed j k (drop 256 came) (drop 256 sent) (omega (arith, enough, length-drop 256 came)) (omega (arith, lt)) (omega (arith, long, length-drop 256 sent))
    (λ i lt. get_or-drop 256 came i 0 ∙ as_sent (256 + i) (omega (arith, lt, length-drop 256 came)) ∙ sym (get_or-drop 256 sent i 0)) in
    (more.0, more.1, λ i. same i ∷ more.2 i)

whole_records : (k n : ℕ) → n ≤ 256 * k + 255 → (q : ℕ) × (q ≤ k) × (256 * q ≤ n) × (n ≤ 256 * q + 255)
whole_records zero n le = (0, omega arith, omega arith, omega (arith, le))
whole_records (suc k) n le = elim (cases_lt n (256 * k)) [
  | inl lt ↦ let less = whole_records k n (omega (arith, lt)) in (less.0, omega (arith, less.1), less.2, less.3)
  | inr ge ↦ elim (cases_lt n (256 * (k + 1))) [
    | inl lt ↦ (k, omega arith, omega (arith, ge), omega (arith, lt))
    | inr full ↦ (suc k, omega arith, omega (arith, full), omega (arith, le))
  ]
]

kept_wider : (first : ℕ) (some all : List (List ℕ)) (v w : MediumView) → ((t : Tape) → v.tape ≡ Some t → (c : Tape) → PartlyReplaced first some t c → PartlyReplaced first all t c) → HasKept first some v w → HasKept first all v w
kept_wider first some all v w wider kept = record {
  stays_in = kept.stays_in;
  shelf_told = kept.shelf_told;
  others = kept.others;
  time = record {
    later = kept.time.later;
    nothing_else = λ t told m c le left. ⊎_elim (λ was. inl was) (λ now. inr (wider t told c now)) (kept.time.nothing_else t told m c le left);
    keeps = kept.time.keeps;
  };
}

module _ {M : Type 0} (view : M → MediumView) where
  -- What a send of these pieces leaves that broke off: the first ones stand, the record of the next may hold any bytes, and
  -- all others are as before; and no power stop leaves another tape.
  pub record HasBrokenOff (first : ℕ) (pieces : List (List ℕ)) (v w : DriveView M) : Type 0 where
    pub kept : HasKept first pieces (view v.medium) (view w.medium)
    pub stand : (t : Tape) → (view v.medium).tape ≡ Some t → (u : Tape) × ((view w.medium).tape ≡ Some u) × PartlyReplaced first pieces t u

  broken_by : (p first : ℕ) (some all : List (List ℕ)) (v w : DriveView M) → ((t : Tape) → (view v.medium).tape ≡ Some t → (c : Tape) → PartlyReplaced first some t c → PartlyReplaced first all t c)
      → HasSentOut view p first some v w → HasBrokenOff first all v w
  broken_by p first some all v w wider sent = record {
    kept = kept_wider first some all (view v.medium) (view w.medium) wider sent.kept;
    stand = λ t told. let u = left_partly view p first some v w sent t told in (u.0, u.1, wider t told u.0 u.2);
  }

  -- Of a send of these bytes, which hold k records and fewer bytes than one more, at most the data frames came, all but the
  -- last one with their bytes.
  pub breaks_off : (p k : ℕ) (sent : List ℕ) (fs : List Frame) (outs : List Out) (v w : DriveView M) → p ≤ 30 → IsFree p v.state → length v.state.buffer_0 ≡ 256 → IsMedium (view v.medium)
      → AllData fs → 256 * k ≤ length sent → length fs ≤ 256 * k + 255 → AsSent (bytes_of fs) sent → v.state.position + k ≤ (view v.medium).record_count
      → Ran view v (unl ∷ rfc ∷ lad p ∷ rfc ∷ write_message ∷ rfc ∷ fs) outs w → HasBrokenOff v.state.position (cut_up k sent) v w
  breaks_off p k sent fs outs v w le free room medium all long few as_sent fits ran =
      let whole = whole_records k (length fs) few in
      by whole.0 whole.1 whole.2 whole.3
    where
      first : ℕ
      first = v.state.position

      pieces : List (List ℕ)
      pieces = cut_up k sent

      so_many : (k : ℕ) (bytes : List ℕ) → length (cut_up k bytes) ≡ k
      so_many zero bytes = refl
      so_many (suc k) bytes = ap suc (so_many k (drop 256 bytes))

      by : (q : ℕ) → q ≤ k → 256 * q ≤ length fs → length fs ≤ 256 * q + 255 → HasBrokenOff first pieces v w
      by zero most enough less =
          broken_by p first [] pieces v w (λ t told c part. nothing_partly first pieces t c part) (writes_run view p 0 fs outs v w le free room medium all enough less (omega (arith, fits)) ran)
      by (suc j) most enough less =
          let sent_out = writes_run view p (suc j) fs outs v w le free room medium all enough less (omega (arith, fits, most)) ran in
          let size = length-map fs byte_of in
          let cut = cut_changed j k (bytes_of fs) sent (omega (arith, size, enough)) (omega (arith, most)) long as_sent in
          broken_by p first (take j pieces ++ cut.0 ∷ []) pieces v w
          (λ t told c part. changed_partly first j pieces cut.0 t (view v.medium).record_count (medium.is_tape t told) (omega (arith, fits, so_many k sent)) (omega (arith, most, so_many k sent)) cut.1 c part)
          (subst (λ ps. HasSentOut view p first ps v w) cut.2 sent_out)
