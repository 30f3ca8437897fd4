-- What a stop leaves in each step of settling and of a commit.
use Rattle.std.proofs.Common.{◌≡◌, ◌≢◌, ◌<◌, ◌≤◌, ◌⊎◌, ◌+◌, ◌++◌, ℕ, zero, suc, List, [], ◌∷◌, true, false, length, get_or, set, take, inl, inr, refl, sym, ◌∙◌, ap, subst, arith, length-set, get_or-set_other, get_or-set_same}
use Rattle.std.proofs.lemmas.Bool.{cases_Bool}
use Rattle.std.proofs.lemmas.List.{take_more, take_all}
use Rattle.lif_model.specs.Tape.{Tape, record_at}
use Rattle.lif_model.specs.Gate.{gate_of, is_open, has_open_gate}
use Rattle.lif_model.specs.Stops.{Torn, Elapses, LeavesOnly}
use Rattle.std.specs.Prelude.{Option, Some}
use Rattle.lif_model.specs.declared.version.Version.{Version}
use Rattle.lif_model.specs.Redo.{redo_start, zeros, open_gate, Changes, redo_of, changed, settled}
use Rattle.lif_model.specs.Commit.{AreChanges, SettlesAs, SettlesBelow, IsOldOrNew, Quiet, IsShut, IsLoaded, IsStaged, IsArmed, IsCommitted}
use Rattle.lif_model.proofs.Moments.{started, goes_on}
use Rattle.lif_model.proofs.Texts.{open_is_open}
use Rattle.lif_model.proofs.Redo.{redo_closed, redo_open, gate_at, same_gate, Elsewhere, AllBelow, elsewhere, length_changed, changed_elsewhere, changed_agree, changes_below, changes_long, redo_places, behind_same, armed_here, loaded_are, settled_none, settled_some, length_settled}

-- ---- the settled tape

pub armed_are : (version : Version) (cs : Changes) (t : Tape) → IsArmed version cs t → AreChanges version (length t) cs
armed_are version cs t armed = loaded_are version cs t armed.loaded

-- what is as x outside the targets and the gate, and has its gate open, settles to the changes
pub settles_new : (version : Version) (cs : Changes) (x y : Tape) → IsArmed version cs x → length y ≡ length x
    → ((k : ℕ) → k ≢ gate_of (length x) → Elsewhere cs k → record_at y k ≡ record_at x k) → has_open_gate y ≡ true → SettlesAs (changed cs x) y
settles_new version [] x y armed size same is = absurd (omega (arith, (changes_long version (length x) [] (armed_are version [] x armed)).0, nothing_below version (length x) (armed_are version [] x armed)))
  where
    nothing_below : (version : Version) (n : ℕ) → AreChanges version n [] → ⊥
    nothing_below version n are = cc
settles_new version (c ∷ cs) x y armed size same is =
    let n = length x in
    let are : AreChanges version n (c ∷ cs) = armed_are version (c ∷ cs) x armed in
    let below : AllBelow (redo_start version n) (c ∷ cs) = changes_below version n (c ∷ cs) are in
    let long = changes_long version n (c ∷ cs) are in
    let loaded : IsLoaded version (c ∷ cs) y = behind_same version (c ∷ cs) x y armed.loaded size (λ k le ne. same k ne (elsewhere (redo_start version n) (c ∷ cs) k below le)) in
    record {
      records = size ∙ sym (length_changed (c ∷ cs) x);
      same = λ k ne.
          let off : k ≢ gate_of n = λ e. ne (e ∙ ap gate_of (sym (length_changed (c ∷ cs) x))) in
          settled_some y c cs (redo_open y is ∙ loaded.holds) k (λ e. off (e ∙ ap gate_of size))
          ∙ changed_agree (λ k. k ≢ gate_of n) (redo_start version n) (c ∷ cs) y x below (omega (arith, size, long.1)) (omega (arith, long.1)) same k off;
    }

pub settles_done : (cs : Changes) (x y : Tape) → length y ≡ length x → ((k : ℕ) → k ≢ gate_of (length x) → record_at y k ≡ record_at (changed cs x) k)
    → has_open_gate y ≡ false → SettlesAs (changed cs x) y
settles_done cs x y size same shut = record {
  records = size ∙ sym (length_changed cs x);
  same = λ k ne. ap (λ (s : Tape). record_at s k) (settled_none y (redo_closed y shut)) ∙ same k (λ e. ne (e ∙ ap gate_of (sym (length_changed cs x))));
}

-- a stop while the gate is being closed, all changes being in place
pub closing : (version : Version) (cs : Changes) (x y z : Tape) → IsArmed version cs x → length y ≡ length x → ((k : ℕ) → record_at y k ≡ record_at (changed cs x) k)
    → Torn (gate_of (length x)) y z → SettlesAs (changed cs x) z
closing version cs x y z armed size done torn = elim (cases_Bool (has_open_gate z)) [
  | inl is ↦ settles_new version cs x z armed (torn.records ∙ size) (λ k ne out. torn.elsewhere k ne ∙ done k ∙ changed_elsewhere cs x k out) is
  | inr shut ↦ settles_done cs x z (torn.records ∙ size) (λ k ne. torn.elsewhere k ne ∙ done k) shut
]

pub armed_settles : (version : Version) (cs : Changes) (t : Tape) → IsArmed version cs t → SettlesAs (changed cs t) t
armed_settles version cs t armed = settles_new version cs t t armed refl (λ k ne out. refl) armed.gate

-- from a tape on which the redo is open to the tape before it
pub below_too : (version : Version) (cs : Changes) (t x y : Tape) → IsArmed version cs x → length x ≡ length t → ((k : ℕ) → k < redo_start version (length t) → record_at x k ≡ record_at t k)
    → SettlesAs (changed cs x) y → SettlesBelow version (changed cs t) y
below_too version cs t x y armed size same new =
    let n = length t in
    let are : AreChanges version n cs = subst (λ (m : ℕ). AreChanges version m cs) size (armed_are version cs x armed) in
    let long = changes_long version n cs are in
    record {
      records = new.records ∙ length_changed cs x ∙ size ∙ sym (length_changed cs t);
      same = λ k lt.
          let under : k < redo_start version n = subst (λ (m : ℕ). k < redo_start version m) (length_changed cs t) lt in
          new.same k (λ e. absurd (omega (arith, ap gate_of (length_changed cs x), ap gate_of size, e, under, (redo_places version n).0)))
          ∙ changed_agree (λ k. k < redo_start version n) (redo_start version n) cs x t (changes_below version n cs are) (omega (arith, size, long.1)) (omega (arith, long.1)) (λ k d out. same k d) k under;
    }

-- what lies below the redo file of one version lies below that of another that begins no later
pub settles_below_less : (version other : Version) (t x : Tape) → redo_start other (length t) ≤ redo_start version (length t) → SettlesBelow version t x → SettlesBelow other t x
settles_below_less version other t x earlier settles = record { records = settles.records; same = λ k lt. settles.same k (omega (arith, lt, earlier)) }

-- ---- quiet and shut tapes

pub quiet_settles : (version : Version) (t x : Tape) → Quiet version t x → SettlesBelow version t x
quiet_settles version t x quiet = record { records = quiet.records; same = λ k lt. ap (λ (s : Tape). record_at s k) (settled_none x quiet.none) ∙ quiet.below k lt }

pub quiet_here : (version : Version) (t : Tape) → redo_of t ≡ [] → Quiet version t t
quiet_here version t none = record { records = refl; below = λ k lt. refl; none = none }

pub shut_quiet : (version : Version) (t u : Tape) → IsShut version t u → Quiet version t u
shut_quiet version t u shut = record { records = shut.records; below = shut.below; none = redo_closed u shut.gate }

pub shut_here : (version : Version) (t : Tape) → has_open_gate t ≡ false → IsShut version t t
shut_here version t gate = record { records = refl; below = λ k lt. refl; gate = gate }

pub shut_from : (version : Version) (t u c : Tape) → length u ≡ length t → ((k : ℕ) → k < redo_start version (length t) → record_at u k ≡ record_at t k) → IsShut version u c → IsShut version t c
shut_from version t u c size below shut = record {
  records = shut.records ∙ size;
  below = λ k lt. shut.below k (subst (λ (m : ℕ). k < redo_start version m) (sym size) lt) ∙ below k lt;
  gate = shut.gate;
}

pub shut_quiet_from : (version : Version) (t u c : Tape) → Quiet version t u → IsShut version u c → Quiet version t c
shut_quiet_from version t u c quiet shut = shut_quiet version t c (shut_from version t u c quiet.records quiet.below shut)

-- a write in the redo file, other than at the gate, after a closed gate
pub torn_shut : (version : Version) (n : ℕ) (t u c : Tape) → redo_start version (length t) ≤ n → n ≢ gate_of (length t) → IsShut version t u → Torn n u c → IsShut version t c
torn_shut version n t u c le ne shut torn = record {
  records = torn.records ∙ shut.records;
  below = λ k lt. torn.elsewhere k (λ e. absurd (omega (arith, e, lt, le))) ∙ shut.below k lt;
  gate = same_gate c u torn.records (torn.elsewhere (gate_of (length u)) (λ e. ne (sym e ∙ ap gate_of shut.records))) ∙ shut.gate;
}

pub set_shut : (version : Version) (n : ℕ) (t u : Tape) (bytes : List ℕ) → redo_start version (length t) ≤ n → n ≢ gate_of (length t) → IsShut version t u → IsShut version t (set u n bytes)
set_shut version n t u bytes le ne shut = record {
  records = length-set u n bytes ∙ shut.records;
  below = λ k lt. get_or-set_other u n k bytes [] (λ e. absurd (omega (arith, e, lt, le))) ∙ shut.below k lt;
  gate = same_gate (set u n bytes) u (length-set u n bytes) (get_or-set_other u n (gate_of (length u)) bytes [] (λ e. ne (sym e ∙ ap gate_of shut.records))) ∙ shut.gate;
}

-- the gate record is written, and is closed then
pub gate_set : (version : Version) (t : Tape) (bytes : List ℕ) → gate_of (length t) < length t → is_open bytes ≡ false → IsShut version t (set t (gate_of (length t)) bytes)
gate_set version t bytes long shut = record {
  records = length-set t (gate_of (length t)) bytes;
  below = λ k lt. get_or-set_other t (gate_of (length t)) k bytes [] (λ e. absurd (omega (arith, e, lt, (redo_places version (length t)).0)));
  gate = gate_at (length t) (set t (gate_of (length t)) bytes) (length-set t (gate_of (length t)) bytes) ∙ ap is_open (get_or-set_same t (gate_of (length t)) bytes [] long) ∙ shut;
}

-- a stop while an open gate without valid targets is closed
pub quiet_gate : (version : Version) (t c : Tape) → has_open_gate t ≡ true → redo_of t ≡ [] → 4 < length t → Torn (gate_of (length t)) t c → Quiet version t c
quiet_gate version t c is none long torn = record {
  records = torn.records;
  below = λ k lt. torn.elsewhere k (λ e. absurd (omega (arith, e, lt, (redo_places version (length t)).0)));
  none = elim (cases_Bool (has_open_gate c)) [
    | inl now ↦ go (redo_of c) refl now
    | inr shut ↦ redo_closed c shut
  ];
}
  where
    go : (ds : Changes) → redo_of c ≡ ds → has_open_gate c ≡ true → redo_of c ≡ []
    go [] e now = e
    go (d ∷ ds) e now =
        let armed = armed_here c d ds e in
        let loaded : IsLoaded armed.0 (d ∷ ds) t = behind_same armed.0 (d ∷ ds) c t armed.1.loaded (sym torn.records)
        (λ k le ne. sym (torn.elsewhere k (λ e. ne (e ∙ ap gate_of (sym torn.records))))) in
        let same : d ∷ ds ≡ [] = sym loaded.holds ∙ sym (redo_open t is) ∙ none in
        cc

-- ---- changes in place, one after the other

pub changed_more : (cs : Changes) (c : ℕ × List ℕ) (t : Tape) → changed (cs ++ c ∷ []) t ≡ set (changed cs t) c.0 c.1
changed_more [] c t = refl
changed_more (d ∷ cs) c t = changed_more cs c (set t d.0 d.1)

pub below_at : (q : ℕ) (cs : Changes) (i : ℕ) → AllBelow q cs → i < length cs → (get_or cs i (0, [])).0 < q
below_at q [] i below lt = absurd (omega arith)
below_at q (c ∷ cs) zero below lt = below.0
below_at q (c ∷ cs) (suc i) below lt = below_at q cs i below.1 (omega arith)

elsewhere_at : (cs : Changes) (k i : ℕ) → Elsewhere cs k → i < length cs → k ≢ (get_or cs i (0, [])).0
elsewhere_at [] k i out lt = absurd (omega arith)
elsewhere_at (c ∷ cs) k zero out lt = out.0
elsewhere_at (c ∷ cs) k (suc i) out lt = elsewhere_at cs k i out.1 (omega arith)

pub elsewhere_take : (cs : Changes) (k i : ℕ) → Elsewhere cs k → Elsewhere (take i cs) k
elsewhere_take cs k zero out = tt
elsewhere_take [] k (suc i) out = tt
elsewhere_take (c ∷ cs) k (suc i) out = (out.0, elsewhere_take cs k i out.1)

pub changed_take : (cs : Changes) (i : ℕ) (t : Tape) → i < length cs → changed (take (i + 1) cs) t ≡ set (changed (take i cs) t) (get_or cs i (0, [])).0 (get_or cs i (0, [])).1
changed_take cs i t lt = ap (λ (xs : Changes). changed xs t) (take_more cs i (0, []) lt) ∙ changed_more (take i cs) (get_or cs i (0, [])) t

pub changed_all : (cs : Changes) (i : ℕ) (t : Tape) → length cs ≤ i → changed (take i cs) t ≡ changed cs t
changed_all cs i t le = ap (λ (xs : Changes). changed xs t) (take_all i cs le)

-- a stop while one of the targets is written in place
pub in_place : (version : Version) (cs : Changes) (t c : Tape) (i : ℕ) → IsArmed version cs t → i < length cs → Torn (get_or cs i (0, [])).0 (changed (take i cs) t) c → SettlesAs (changed cs t) c
in_place version cs t c i armed lt torn =
    let n = length t in
    let below = changes_below version n cs (armed_are version cs t armed) in
    let outside : Elsewhere cs (gate_of n) = elsewhere (redo_start version n) cs (gate_of n) below (redo_places version n).0 in
    let size : length c ≡ n = torn.records ∙ length_changed (take i cs) t in
    let same : (k : ℕ) → Elsewhere cs k → record_at c k ≡ record_at t k = λ k out. torn.elsewhere k (elsewhere_at cs k i out lt) ∙ changed_elsewhere (take i cs) t k (elsewhere_take cs k i out) in
    settles_new version cs t c armed size (λ k ne out. same k out) (same_gate c t size (same (gate_of n) outside) ∙ armed.gate)

-- ---- the gate opens

-- a stop while the gate is being opened
pub opening : (version : Version) (cs : Changes) (t u z : Tape) → IsStaged version cs t u → Torn (gate_of (length t)) u z
    → Quiet version t z ⊎ (IsArmed version cs z × (length z ≡ length t) × ((k : ℕ) → k < redo_start version (length t) → record_at z k ≡ record_at t k))
opening version cs t u z staged torn =
    let shut : IsShut version t u = staged.shut in
    let size : length z ≡ length t = torn.records ∙ shut.records in
    let below : (k : ℕ) → k < redo_start version (length t) → record_at z k ≡ record_at t k =
    λ k lt. torn.elsewhere k (λ e. absurd (omega (arith, e, lt, (redo_places version (length t)).0))) ∙ shut.below k lt in
    elim (cases_Bool (has_open_gate z)) [
      | inl is ↦ inr (
        record { gate = is; loaded = behind_same version cs u z staged.loaded torn.records (λ k le ne. torn.elsewhere k (λ e. ne (e ∙ ap gate_of (sym shut.records)))) },
        size,
        below,
      )
      | inr gate ↦ inl (record { records = size; below = below; none = redo_closed z gate })
    ]

-- ---- the same, against the tape before a commit

module _ (version : Version) (cs : Changes) (t : Tape) where
  pub old_quiet : (x : Tape) → Quiet version t x → IsOldOrNew version cs t x
  old_quiet x quiet = inl (quiet_settles version t x quiet)

  pub old_shut : (u x : Tape) → IsShut version t u → IsShut version u x → IsOldOrNew version cs t x
  old_shut u x shut next = inl (quiet_settles version t x (shut_quiet_from version t u x (shut_quiet version t u shut) next))

  pub staged_from : (u v : Tape) → IsShut version t u → IsStaged version cs u v → IsStaged version cs t v
  staged_from u v shut staged = record { shut = shut_from version t u v shut.records shut.below staged.shut; loaded = staged.loaded }

  -- a redo is open with these changes, over a tape that is t below the redo file
  pub record IsOpen (x : Tape) : Type 0 where
    pub armed : IsArmed version cs x
    pub records : length x ≡ length t
    pub below : (k : ℕ) → k < redo_start version (length t) → record_at x k ≡ record_at t k

  pub gate_written : (u : Tape) → IsStaged version cs t u → IsOpen (set u (gate_of (length t)) open_gate)
  gate_written u staged =
      let shut : IsShut version t u = staged.shut in
      let gate = gate_of (length t) in
      let v : Tape = set u gate open_gate in
      let long = changes_long version (length u) cs (loaded_are version cs u staged.loaded) in
      record {
        armed = record {
          gate = gate_at (length t) v (length-set u gate open_gate ∙ shut.records) ∙ ap is_open (get_or-set_same u gate open_gate [] (omega (arith, shut.records, long.0))) ∙ open_is_open;
          loaded = behind_same version cs u v staged.loaded (length-set u gate open_gate) (λ k le ne. get_or-set_other u gate k open_gate [] (λ e. ne (e ∙ ap gate_of (sym shut.records))));
        };
        records = length-set u gate open_gate ∙ shut.records;
        below = λ k lt. get_or-set_other u gate k open_gate [] (λ e. absurd (omega (arith, e, lt, (redo_places version (length t)).0))) ∙ shut.below k lt;
      }

  pub new_open : (x y : Tape) → IsOpen x → SettlesAs (changed cs x) y → IsOldOrNew version cs t y
  new_open x y is new = inr (below_too version cs t x y is.armed is.records is.below new)

  pub either_opening : (u z : Tape) → IsStaged version cs t u → Torn (gate_of (length t)) u z → IsOldOrNew version cs t z
  either_opening u z staged torn = elim (opening version cs t u z staged torn) [
    | inl quiet ↦ old_quiet z quiet
    | inr now ↦ inr (below_too version cs t z z now.0 now.1 now.2 (armed_settles version cs z now.0))
  ]

  pub committed : (x : Tape) → IsOpen x → IsCommitted version cs t (set (changed cs x) (gate_of (length t)) zeros)
  committed x is =
      let n = length t in
      let are : AreChanges version n cs = subst (λ (m : ℕ). AreChanges version m cs) is.records (armed_are version cs x is.armed) in
      let long = changes_long version n cs are in
      record {
        records = length-set (changed cs x) (gate_of n) zeros ∙ length_changed cs x ∙ is.records;
        below = λ k lt. get_or-set_other (changed cs x) (gate_of n) k zeros [] (λ e. absurd (omega (arith, e, lt, (redo_places version n).0)))
            ∙ changed_agree (λ k. k < redo_start version n) (redo_start version n) cs x t (changes_below version n cs are) (omega (arith, is.records, long.1)) (omega (arith, long.1)) (λ k lt out. is.below k lt) k lt;
        gate = get_or-set_same (changed cs x) (gate_of n) zeros [] (omega (arith, length_changed cs x, is.records, long.0));
      }

-- ---- for settling

-- what settles as with the changes settles as the settled tape
pub settles_too : (t x : Tape) (c : ℕ × List ℕ) (cs : Changes) → redo_of t ≡ c ∷ cs → SettlesAs (changed (c ∷ cs) t) x → SettlesAs (settled t) x
settles_too t x c cs is new = record {
  records = new.records ∙ length_changed (c ∷ cs) t ∙ sym (length_settled t);
  same = λ k ne. new.same k (λ e. ne (e ∙ ap gate_of (length_changed (c ∷ cs) t ∙ sym (length_settled t))))
      ∙ sym (settled_some t c cs is k (λ e. ne (e ∙ ap gate_of (sym (length_settled t)))));
}

pub settles_self : (t : Tape) → SettlesAs (settled t) t
settles_self t = record { records = sym (length_settled t); same = λ k ne. refl }

-- ---- writes after a closed gate, with their moments

module _ (version : Version) (t : Tape) where
  pub shut_start : (now : ℕ) (since : ℕ → Tape → Type 0) → ((c : Tape) → since now c → c ≡ t) → has_open_gate t ≡ false → LeavesOnly now now since since (IsShut version t)
  shut_start now since only shut = started now since (IsShut version t) t only (shut_here version t shut)

  pub shut_write : (n m₀ m₁ m₂ : ℕ) (s₀ s₁ s₂ : ℕ → Tape → Type 0) (tape : Option Tape) (u : Tape) → redo_start version (length t) ≤ n → n ≢ gate_of (length t) → tape ≡ Some u → IsShut version t u
      → LeavesOnly m₀ m₁ s₀ s₁ (IsShut version t) → Elapses m₁ m₂ s₁ s₂ tape (Torn n) → LeavesOnly m₀ m₂ s₀ s₂ (IsShut version t)
  shut_write n m₀ m₁ m₂ s₀ s₁ s₂ tape u le ne is shut so_far time =
      goes_on m₀ m₁ m₂ s₀ s₁ s₂ (IsShut version t) tape (Torn n) u is so_far time (λ c torn. torn_shut version n t u c le ne shut torn)
