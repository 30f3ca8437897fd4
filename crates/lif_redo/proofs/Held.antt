-- The changes that an open redo stands for, one after the other.
use Rattle.std.proofs.Common.{◌≡◌, ◌<◌, ◌≤◌, ◌+◌, ◌++◌, ◌∙◌, ℕ, zero, suc, List, [], ◌∷◌, true, false, length, get_or, set, take, map, refl, sym, ap, subst, arith}
use Rattle.lif_model.specs.Tape.{Tape, record_at}
use Rattle.lif_model.specs.Gate.{gate_of, is_open, has_open_gate}
use Rattle.lif_model.specs.Stops.{Torn}
use Rattle.lif_model.specs.declared.version.Version.{Version}
use Rattle.lif_model.specs.Redo.{Valid, redo_length, redo_start, data_record, zeros, are_targets, Changes, targets_in, held_from, held_by, redo_of, changed, settled, settled_by}
use Rattle.lif_model.specs.Commit.{AreChanges, SettlesAs, IsArmed, settle_writes}
use Rattle.lif_model.proofs.Redo.{zeros_are_shut, gate_at, length_settled, settled_gate, redo_open, held_targets, changes_long, changes_below, data_place, elsewhere, changed_elsewhere, length_changed, settled_none, targets_some}
use Rattle.lif_model.proofs.Commit.{in_place, closing, changed_take, changed_all, elsewhere_take, settles_too, armed_settles}
use Rattle.lif_redo.specs.Reading.{IsOpenWith}

pub length_held : (version : Version) (n : ℕ) (t : Tape) (i : ℕ) (ts : List ℕ) → length (held_from version n t i ts) ≡ length ts
length_held version n t i [] = refl
length_held version n t i (target ∷ ts) = ap (λ (k : ℕ). suc k) (length_held version n t (suc i) ts)

held_at : (version : Version) (n : ℕ) (t : Tape) (i : ℕ) (ts : List ℕ) (j : ℕ) → j < length ts
    → get_or (held_from version n t i ts) j (0, []) ≡ (get_or ts j 0, record_at t (data_record version n (i + j)))
held_at version n t i [] j lt = absurd (omega arith)
held_at version n t i (target ∷ ts) zero lt = ap (λ (k : ℕ). (target, record_at t (data_record version n k))) (omega arith)
held_at version n t i (target ∷ ts) (suc j) lt = held_at version n t (suc i) ts j (omega arith) ∙ ap (λ (k : ℕ). (get_or ts j 0, record_at t (data_record version n k))) (omega arith)

-- a tape on which targets are valid is longer than the redo file, and there is one
pub targets_long : (version : Version) (n : ℕ) (ts : List ℕ) → are_targets version n ts ≡ true → (4 < n) × (redo_length version < n) × (0 < length ts)
targets_long version n ts are =
    let cs : Changes = map (λ k. (k, [])) ts in
    let same : targets_in cs ≡ ts = names_of ts in
    let long = changes_long version n cs (subst (λ (us : List ℕ). are_targets version n us ≡ true) (sym same) are) in
    (long.0, long.1, targets_some version n ts are)
  where
    names_of : (us : List ℕ) → targets_in (map (λ k. (k, [])) us) ≡ us
    names_of [] = refl
    names_of (u ∷ us) = ap (λ (vs : List ℕ). u ∷ vs) (names_of us)

-- of any number of changes
settles_any : (t x : Tape) (cs : Changes) → redo_of t ≡ cs → SettlesAs (changed cs t) x → SettlesAs (settled t) x
settles_any t x [] is new = subst (λ (u : Tape). SettlesAs u x) (sym (settled_none t is)) new
settles_any t x (c ∷ cs) is new = settles_too t x c cs is new

settled_some : (t : Tape) (cs : Changes) → 0 < length cs → redo_of t ≡ cs → settled t ≡ set (changed cs t) (gate_of (length t)) zeros
settled_some t [] some is = absurd (omega (arith, some))
settled_some t (c ∷ cs) some is = ap (λ (ds : Changes). settled_by ds t) is

pub settle_some : (n : ℕ) (cs : Changes) → 0 < length cs → settle_writes n cs ≡ cs ++ (gate_of n, zeros) ∷ []
settle_some n [] some = absurd (omega (arith, some))
settle_some n (c ∷ cs) some = refl

module _ (t : Tape) (n : ℕ) (size : length t ≡ n) (version : Version) (targets : List ℕ) (are : are_targets version n targets ≡ true) (found : IsOpenWith version targets t) where
  abbrev held : Changes
  held = held_from version (length t) t 0 targets

  is_held : redo_of t ≡ held
  is_held = redo_open t found.0 ∙ ap (held_by (length t) t) found.1

  names : targets_in held ≡ targets
  names = held_targets version (length t) t 0 targets

  armed : IsArmed version held t
  armed = record { gate = found.0; loaded = record { named = found.1 ∙ ap (Valid version) (sym names); holds = ap (held_by (length t) t) found.1 } }

  changes : AreChanges version (length t) held
  changes = subst (λ (ts : List ℕ). are_targets version (length t) ts ≡ true) (sym names) (subst (λ (m : ℕ). are_targets version m targets ≡ true) (sym size) are)

  count : length held ≡ length targets
  count = length_held version (length t) t 0 targets

  pub redo_some : 0 < length (redo_of t)
  redo_some = omega (arith, ap length is_held, count, targets_some version n targets are)

  pub redo_count : length (redo_of t) ≡ length targets
  redo_count = ap length is_held ∙ count

  here : (i : ℕ) → i < length targets → get_or held i (0, []) ≡ (get_or targets i 0, record_at t (data_record version (length t) i))
  here i lt = held_at version (length t) t 0 targets i lt ∙ ap (λ (k : ℕ). (get_or targets i 0, record_at t (data_record version (length t) k))) (omega arith)

  -- the data records stay
  data_stays : (i : ℕ) → record_at (changed (take i held) t) (data_record version (length t) i) ≡ record_at t (data_record version (length t) i)
  data_stays i =
      let place = data_place version (length t) i (changes_long version (length t) held changes).1 in
      let below = changes_below version (length t) held changes in
      changed_elsewhere (take i held) t (data_record version (length t) i) (elsewhere_take held (data_record version (length t) i) i (elsewhere (redo_start version (length t)) held (data_record version (length t) i) below place.0))

  -- the content of target i is copied to it
  held_step : (i : ℕ) → i < length targets
      → set (changed (take i held) t) (get_or targets i 0) (record_at (changed (take i held) t) (data_record version (length t) i)) ≡ changed (take (i + 1) held) t
  held_step i lt =
      let at : get_or held i (0, []) ≡ (get_or targets i 0, record_at t (data_record version (length t) i)) = here i lt in
      ap (λ (bytes : List ℕ). set (changed (take i held) t) (get_or targets i 0) bytes) (data_stays i)
      ∙ sym (ap (λ (c : ℕ × List ℕ). set (changed (take i held) t) c.0 c.1) at)
      ∙ sym (changed_take held i t (omega (arith, lt, count)))

  pub copied : (i : ℕ) → i < length targets
      → set (changed (take i (redo_of t)) t) (get_or targets i 0) (record_at (changed (take i (redo_of t)) t) (data_record version n i)) ≡ changed (take (i + 1) (redo_of t)) t
  copied i lt =
      (λ d. set (changed (take i (is_held d)) t) (get_or targets i 0) (record_at (changed (take i (is_held d)) t) (data_record version (sym size d) i)))
      ∙ held_step i lt ∙ sym (ap (λ (cs : Changes). changed (take (i + 1) cs) t) is_held)

  -- what is copied
  pub copied_bytes : (i : ℕ) → i < length targets → (get_or targets i 0, record_at (changed (take i (redo_of t)) t) (data_record version n i)) ≡ get_or (redo_of t) i (0, [])
  copied_bytes i lt =
      (λ d. (get_or targets i 0, record_at (changed (take i (is_held d)) t) (data_record version (sym size d) i)))
      ∙ ap (λ (bytes : List ℕ). (get_or targets i 0, bytes)) (data_stays i) ∙ sym (here i lt) ∙ sym (ap (λ (cs : Changes). get_or cs i (0, [])) is_held)

  pub settles_at_first : SettlesAs (settled t) t
  settles_at_first = settles_any t t held is_held (armed_settles version held t armed)

  -- a stop while target i is written
  pub settles_in_place : (x : Tape) (i : ℕ) → i < length targets → Torn (get_or targets i 0) (changed (take i (redo_of t)) t) x → SettlesAs (settled t) x
  settles_in_place x i lt torn =
      let place : get_or targets i 0 ≡ (get_or held i (0, [])).0 = sym (ap (λ (c : ℕ × List ℕ). c.0) (here i lt)) in
      settles_any t x held is_held (in_place version held t x i armed (omega (arith, lt, count))
      (subst (λ (k : ℕ). Torn k (changed (take i held) t) x) place (subst (λ (cs : Changes). Torn (get_or targets i 0) (changed (take i cs) t) x) is_held torn)))

  -- a stop while the gate is closed
  pub settles_closing : (x : Tape) (i : ℕ) → length targets ≤ i → Torn (gate_of n) (changed (take i (redo_of t)) t) x → SettlesAs (settled t) x
  settles_closing x i all torn =
      let y : Tape = changed (take i held) t in
      settles_any t x held is_held (closing version held t y x armed (length_changed (take i held) t)
      (λ k. ap (λ (u : Tape). record_at u k) (changed_all held i t (omega (arith, all, count))))
      (subst (λ (m : ℕ). Torn (gate_of m) y x) (sym size) (subst (λ (cs : Changes). Torn (gate_of n) (changed (take i cs) t) x) is_held torn)))

  pub settled_is : (i : ℕ) → length targets ≤ i → set (changed (take i (redo_of t)) t) (gate_of n) zeros ≡ settled t
  settled_is i all =
      ap (λ (u : Tape). set u (gate_of n) zeros) (changed_all (redo_of t) i t (omega (arith, all, redo_count)))
      ∙ ap (λ (m : ℕ). set (changed (redo_of t) t) (gate_of m) zeros) (sym size)
      ∙ sym (settled_some t (redo_of t) redo_some refl)

  -- the gate then reads closed
  pub shut_then : has_open_gate (settled t) ≡ false
  shut_then = by (redo_of t) refl redo_some
    where
      by : (cs : Changes) → redo_of t ≡ cs → 0 < length cs → has_open_gate (settled t) ≡ false
      by [] is some = absurd (omega (arith, some))
      by (c ∷ cs) is some = gate_at (length t) (settled t) (length_settled t) ∙ ap is_open (settled_gate t c cs is) ∙ zeros_are_shut

  pub redo_is_open : redo_of t ≡ [] → ⊥
  redo_is_open none = absurd (omega (arith, redo_some, ap (λ (cs : Changes). length cs) none))
