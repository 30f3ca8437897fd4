-- Laws of the redo file: what settling does, and what it depends on.
use Rattle.std.proofs.Common.{◌≡◌, ◌≢◌, ◌<◌, ◌≤◌, ◌⊎◌, ℕ, suc, List, [], ◌∷◌, Bool, true, false, if◌then◌else◌, length, set, inl, inr, refl, sym, ◌∙◌, ap, subst, arith, length-set, get_or-set_other, get_or-set_same, nat_lt}
use Rattle.std.proofs.lemmas.Bool.{cases_eq, cases_lt, cases_Bool, and_parts, ltb-true, leb-true, lt-ltb, le-ltb}
use Rattle.std.specs.List.{list_all}
use Rattle.lif_model.specs.Tape.{Tape, record_at}
use Rattle.lif_model.specs.Gate.{gate_of, is_open, has_open_gate}
use Rattle.lif_model.specs.declared.version.Version.{Version}
use Rattle.lif_model.specs.declared.version.Version.TheVariants.{One, Two}
use Rattle.lif_model.specs.Redo.{versions, redo_length, redo_start, most_targets, data_record, zeros, targets_place, are_targets, named_by, is_valid, Targets, Invalid, Valid, targets_among, targets_of, Changes, targets_in, held_from, held_by, behind, redo_of, changed, settled_by, settled, IsSettled}
use Rattle.lif_model.specs.Commit.{AreChanges, IsLoaded, IsArmed}

-- ---- the gate

pub zeros_are_shut : is_open zeros ≡ false
unfolding zeros is_open
zeros_are_shut = refl

pub redo_closed : (t : Tape) → has_open_gate t ≡ false → redo_of t ≡ []
redo_closed t shut = ap (λ (b : Bool). if b then behind t else []) shut

pub redo_open : (t : Tape) → has_open_gate t ≡ true → redo_of t ≡ behind t
redo_open t is = ap (λ (b : Bool). if b then behind t else []) is

-- the gate of a tape of equal length is its gate record's
pub gate_at : (n : ℕ) (t : Tape) → length t ≡ n → has_open_gate t ≡ is_open (record_at t (gate_of n))
gate_at n t e = ap (λ (m : ℕ). is_open (record_at t (gate_of m))) e

pub same_gate : (x y : Tape) → length x ≡ length y → record_at x (gate_of (length y)) ≡ record_at y (gate_of (length y)) → has_open_gate x ≡ has_open_gate y
same_gate x y e same = gate_at (length y) x e ∙ ap is_open same

-- ---- changes

-- record k is none of their targets
abbrev pub Elsewhere : Changes → ℕ → Type 0
Elsewhere [] k = Unit {0}
Elsewhere (c ∷ cs) k = (k ≢ c.0) × Elsewhere cs k

abbrev pub AllBelow : ℕ → Changes → Type 0
AllBelow q [] = Unit {0}
AllBelow q (c ∷ cs) = (c.0 < q) × AllBelow q cs

pub elsewhere : (q : ℕ) (cs : Changes) (k : ℕ) → AllBelow q cs → q ≤ k → Elsewhere cs k
elsewhere q [] k below le = tt
elsewhere q (c ∷ cs) k below le = (λ e. absurd (omega (arith, below.0, le, e)), elsewhere q cs k below.1 le)

pub length_changed : (cs : Changes) (t : Tape) → length (changed cs t) ≡ length t
length_changed [] t = refl
length_changed (c ∷ cs) t = length_changed cs (set t c.0 c.1) ∙ length-set t c.0 c.1

pub changed_elsewhere : (cs : Changes) (t : Tape) (k : ℕ) → Elsewhere cs k → record_at (changed cs t) k ≡ record_at t k
changed_elsewhere [] t k out = refl
changed_elsewhere (c ∷ cs) t k out = changed_elsewhere cs (set t c.0 c.1) k out.1 ∙ get_or-set_other t c.0 k c.1 [] out.0

-- two tapes that agree where D holds and no change comes agree after the changes
pub changed_agree : (D : ℕ → Type 0) (q : ℕ) (cs : Changes) (x y : Tape) → AllBelow q cs → q ≤ length x → q ≤ length y
    → ((k : ℕ) → D k → Elsewhere cs k → record_at x k ≡ record_at y k) → (k : ℕ) → D k → record_at (changed cs x) k ≡ record_at (changed cs y) k
changed_agree D q [] x y below long_x long_y agree k d = agree k d tt
changed_agree D q (c ∷ cs) x y below long_x long_y agree k d =
    changed_agree D q cs (set x c.0 c.1) (set y c.0 c.1) below.1 (omega (arith, length-set x c.0 c.1, long_x)) (omega (arith, length-set y c.0 c.1, long_y)) both k d
  where
    both : (k : ℕ) → D k → Elsewhere cs k → record_at (set x c.0 c.1) k ≡ record_at (set y c.0 c.1) k
    both k d out = elim (cases_eq k c.0) [
      | inl e ↦ subst (λ (m : ℕ). record_at (set x c.0 c.1) m ≡ record_at (set y c.0 c.1) m) (sym e)
          (get_or-set_same x c.0 c.1 [] (omega (arith, below.0, long_x)) ∙ sym (get_or-set_same y c.0 c.1 [] (omega (arith, below.0, long_y))))
      | inr ne ↦ get_or-set_other x c.0 k c.1 [] ne ∙ agree k d (ne, out) ∙ sym (get_or-set_other y c.0 k c.1 [] ne)
    ]

-- ---- targets

-- what the test says of targets
pub targets_some : (version : Version) (n : ℕ) (ts : List ℕ) → are_targets version n ts ≡ true → 0 < length ts
targets_some version n ts are = ltb-true 0 (length ts) (and_parts _ _ are).0

pub targets_few : (version : Version) (n : ℕ) (ts : List ℕ) → are_targets version n ts ≡ true → length ts ≤ most_targets version
targets_few version n ts are = leb-true (length ts) (most_targets version) (and_parts _ _ (and_parts (nat_lt 0 (length ts)) _ are).1).0

pub all_below : (q : ℕ) (cs : Changes) → list_all (λ k. nat_lt k q) (targets_in cs) ≡ true → AllBelow q cs
all_below q [] all = tt
all_below q (c ∷ cs) all = let parts = and_parts (nat_lt c.0 q) (list_all (λ k. nat_lt k q) (targets_in cs)) all in (ltb-true c.0 q parts.0, all_below q cs parts.1)

pub changes_below : (version : Version) (n : ℕ) (cs : Changes) → AreChanges version n cs → AllBelow (redo_start version n) cs
changes_below version n cs are = all_below (redo_start version n) cs (and_parts _ _ (and_parts _ _ (and_parts _ _ are).1).1).0

-- a redo file has a gate, a targets record and a record for each of two targets at least
pub four_at_least : (version : Version) → 4 ≤ redo_length version
four_at_least One = omega arith
four_at_least Two = omega arith

-- a tape on which targets are valid is longer than the redo file
pub changes_long : (version : Version) (n : ℕ) (cs : Changes) → AreChanges version n cs → (4 < n) × (redo_length version < n)
changes_long version n [] are = absurd (omega (arith, targets_some version n [] are))
changes_long version n (c ∷ cs) are = let below = (changes_below version n (c ∷ cs) are).0 in (omega (arith, below, four_at_least version), omega (arith, below))

abbrev Are : ℕ → Targets → Type 0
Are n Invalid = Unit {0}
Are n (Valid version ts) = are_targets version n ts ≡ true

among_are : (vs : List Version) (n : ℕ) (bytes : List ℕ) → Are n (targets_among vs n bytes)
unfolding is_valid
among_are [] n bytes = tt
among_are (v ∷ vs) n bytes = go (is_valid v n bytes) refl (among_are vs n bytes)
  where
    go : (b : Bool) → is_valid v n bytes ≡ b → Are n (targets_among vs n bytes) → Are n (if b then Valid v (named_by v bytes) else targets_among vs n bytes)
    go false e rest = rest
    go true e rest = (and_parts _ _ e).1

-- valid targets are targets
pub valid_are : (n : ℕ) (bytes : List ℕ) (version : Version) (ts : List ℕ) → targets_of n bytes ≡ Valid version ts → are_targets version n ts ≡ true
valid_are n bytes version ts is = subst (Are n) is (among_are versions n bytes)

-- ---- what comes after the gate

-- the data records are apart from the gate and the targets record, and in the redo file
pub data_place : (version : Version) (n i : ℕ) → redo_length version < n → (redo_start version n ≤ data_record version n i) × (gate_of n ≢ data_record version n i) × (targets_place n ≢ data_record version n i)
data_place One n i long = (omega arith, omega arith, omega arith)
data_place Two n i long = elim (cases_lt i 30) [
  | inl lt ↦ rw (lt-ltb i 30 lt) (omega arith, omega arith, omega arith)
  | inr ge ↦ rw (le-ltb i 30 ge) (omega arith, omega arith, omega arith)
]

pub redo_places : (version : Version) (n : ℕ) → (redo_start version n ≤ gate_of n) × (redo_start version n ≤ targets_place n)
redo_places One n = (omega arith, omega arith)
redo_places Two n = (omega arith, omega arith)

pub held_targets : (version : Version) (n : ℕ) (t : Tape) (i : ℕ) (ts : List ℕ) → targets_in (held_from version n t i ts) ≡ ts
held_targets version n t i [] = refl
held_targets version n t i (target ∷ ts) = ap (λ (us : List ℕ). target ∷ us) (held_targets version n t (suc i) ts)

pub held_same : (version : Version) (n : ℕ) (x y : Tape) (i : ℕ) (ts : List ℕ) → ((j : ℕ) → record_at x (data_record version n j) ≡ record_at y (data_record version n j))
    → held_from version n x i ts ≡ held_from version n y i ts
held_same version n x y i [] same = refl
held_same version n x y i (target ∷ ts) same = λ d. (target, same i d) ∷ held_same version n x y (suc i) ts same d

-- what a targets record says on a tape of n records, and what comes after the gate of such a tape
pub named_at : (n : ℕ) (t : Tape) → length t ≡ n → targets_of (length t) (record_at t (targets_place (length t))) ≡ targets_of n (record_at t (targets_place n))
named_at n t e = ap (λ (m : ℕ). targets_of m (record_at t (targets_place m))) e

pub behind_at : (n : ℕ) (t : Tape) → length t ≡ n → behind t ≡ held_by n t (targets_of n (record_at t (targets_place n)))
behind_at n t e = ap (λ (m : ℕ). held_by m t (targets_of m (record_at t (targets_place m)))) e

-- a redo file that is as a loaded one holds the same changes
pub behind_same : (version : Version) (cs : Changes) (x y : Tape) → IsLoaded version cs x → length y ≡ length x
    → ((k : ℕ) → redo_start version (length x) ≤ k → k ≢ gate_of (length x) → record_at y k ≡ record_at x k) → IsLoaded version cs y
behind_same version cs x y loaded size same =
    let n = length x in
    let are : are_targets version n (targets_in cs) ≡ true = valid_are n _ version (targets_in cs) loaded.named in
    let long = changes_long version n cs are in
    let names : record_at y (targets_place n) ≡ record_at x (targets_place n) = same (targets_place n) (redo_places version n).1 (omega (arith, long.0)) in
    let named : targets_of n (record_at y (targets_place n)) ≡ Valid version (targets_in cs) = ap (targets_of n) names ∙ loaded.named in
    record {
      named = named_at n y size ∙ named;
      holds = behind_at n y size ∙ ap (held_by n y) named
          ∙ held_same version n y x 0 (targets_in cs) (λ j. let place = data_place version n j long.1 in same (data_record version n j) place.0 (λ e. place.1 (sym e)))
          ∙ sym (ap (held_by n x) loaded.named) ∙ loaded.holds;
    }

-- an open redo is one of some version, with its own changes
pub armed_here : (t : Tape) (c : ℕ × List ℕ) (cs : Changes) → redo_of t ≡ c ∷ cs → (version : Version) × IsArmed version (c ∷ cs) t
armed_here t c cs is = elim (cases_Bool (has_open_gate t)) [
  | inl gate ↦ go gate (targets_of (length t) (record_at t (targets_place (length t)))) refl
  | inr gate ↦ let e : [] ≡ c ∷ cs = sym (redo_closed t gate) ∙ is in cc
]
  where
    go : has_open_gate t ≡ true → (ts : Targets) → targets_of (length t) (record_at t (targets_place (length t))) ≡ ts → (version : Version) × IsArmed version (c ∷ cs) t
    go gate Invalid e = let none : [] ≡ c ∷ cs = sym (ap (held_by (length t) t) e) ∙ sym (redo_open t gate) ∙ is in cc
    go gate (Valid version ts) e =
        let holds : behind t ≡ c ∷ cs = sym (redo_open t gate) ∙ is in
        let names : targets_in (c ∷ cs) ≡ ts = ap targets_in (sym holds ∙ ap (held_by (length t) t) e) ∙ held_targets version (length t) t 0 ts in
        (version, record { gate = gate; loaded = record { named = e ∙ ap (Valid version) (sym names); holds = holds } })

pub loaded_are : (version : Version) (cs : Changes) (t : Tape) → IsLoaded version cs t → AreChanges version (length t) cs
loaded_are version cs t loaded = valid_are (length t) _ version (targets_in cs) loaded.named

-- ---- settled tapes

pub settled_none : (t : Tape) → redo_of t ≡ [] → settled t ≡ t
settled_none t none = ap (λ (cs : Changes). settled_by cs t) none

pub settled_some : (t : Tape) (c : ℕ × List ℕ) (cs : Changes) → redo_of t ≡ c ∷ cs → (k : ℕ) → k ≢ gate_of (length t) → record_at (settled t) k ≡ record_at (changed (c ∷ cs) t) k
settled_some t c cs is k ne = ap (λ (ds : Changes). record_at (settled_by ds t) k) is ∙ get_or-set_other (changed (c ∷ cs) t) (gate_of (length t)) k zeros [] ne

pub length_settled : (t : Tape) → length (settled t) ≡ length t
length_settled t = go (redo_of t)
  where
    go : (cs : Changes) → length (settled_by cs t) ≡ length t
    go [] = refl
    go (c ∷ cs) = length-set (changed (c ∷ cs) t) (gate_of (length t)) zeros ∙ length_changed (c ∷ cs) t

-- an open redo leaves a gate record of zeros
pub settled_gate : (t : Tape) (c : ℕ × List ℕ) (cs : Changes) → redo_of t ≡ c ∷ cs → record_at (settled t) (gate_of (length t)) ≡ zeros
settled_gate t c cs is =
    let armed = armed_here t c cs is in
    let long = changes_long armed.0 (length t) (c ∷ cs) (loaded_are armed.0 (c ∷ cs) t armed.1.loaded) in
    ap (λ (ds : Changes). record_at (settled_by ds t) (gate_of (length t))) is
    ∙ get_or-set_same (changed (c ∷ cs) t) (gate_of (length t)) zeros [] (omega (arith, long.0, length_changed (c ∷ cs) t))

-- nothing is left to settle of a settled tape
pub settled_is_quiet : (t : Tape) → redo_of (settled t) ≡ []
settled_is_quiet t = go (redo_of t) refl
  where
    go : (cs : Changes) → redo_of t ≡ cs → redo_of (settled t) ≡ []
    go [] e = ap redo_of (settled_none t e) ∙ e
    go (c ∷ cs) e = redo_closed (settled t) (gate_at (length t) (settled t) (length_settled t) ∙ ap is_open (settled_gate t c cs e) ∙ zeros_are_shut)

-- to settle twice is to settle once
pub settled_twice : (t : Tape) → settled (settled t) ≡ settled t
settled_twice t = settled_none (settled t) (settled_is_quiet t)

-- a tape is settled exactly where nothing is left to settle
pub settled_has_none : (t : Tape) → IsSettled t → redo_of t ≡ []
settled_has_none t is = sym (ap redo_of is) ∙ settled_is_quiet t

-- a settled tape has a closed gate or invalid targets
pub settled_gate_or_targets : (t : Tape) → IsSettled t → (has_open_gate t ≡ false) ⊎ (targets_of (length t) (record_at t (targets_place (length t))) ≡ Invalid)
settled_gate_or_targets t is = elim (cases_Bool (has_open_gate t)) [
  | inl gate ↦ inr (go (targets_of (length t) (record_at t (targets_place (length t)))) refl (sym (redo_open t gate) ∙ settled_has_none t is))
  | inr gate ↦ inl gate
]
  where
    go : (ts : Targets) → targets_of (length t) (record_at t (targets_place (length t))) ≡ ts → behind t ≡ [] → ts ≡ Invalid
    go Invalid e none = refl
    go (Valid version ts) e none =
        let names : ts ≡ [] = sym (held_targets version (length t) t 0 ts) ∙ ap targets_in (sym (ap (held_by (length t) t) e) ∙ none) in
        absurd (omega (arith, targets_some version (length t) ts (valid_are (length t) _ version ts e), ap (λ (us : List ℕ). length us) names))
