-- What a command leaves of a tape: what a stop in its commit may leave, and what stands after an
-- Ok.
use Rattle.std.proofs.Common.{◌≡◌, ◌⊎◌, ◌<◌, ℕ, nat_lt, List, [], ◌∷◌, Bool, true, false, if◌then◌else◌, Some, length, get_or, filter, inl, inr, refl, sym, ◌∙◌, ap, subst, arith}
use Rattle.std.specs.List.{list_any}
use Rattle.std.proofs.lemmas.Bool.{and_left, and_right, not_from_true}
use Rattle.lif_model.specs.Tape.{Tape, IsTape, record_at}
use Rattle.lif_model.specs.Gate.{gate_of, is_open}
use Rattle.lif_model.specs.Directory.{slots_of}
use Rattle.lif_model.specs.Made.{file_length, file_records}
use Rattle.lif_model.specs.declared.version.Version.{Version}
use Rattle.lif_model.specs.declared.version.Version.TheVariants.{One}
use Rattle.lif_model.specs.Redo.{versions, redo_start, Changes, changed, IsSettled}
use Rattle.lif_model.specs.Commit.{SettlesBelow, IsOldOrNew, IsCommitted, IsTarget}
use Rattle.lif_model.specs.Transfers.{Replaced}
use Rattle.lif_model.specs.Legal.{occupies, end_of, is_legal}
use Rattle.lif_model.specs.Volume.{is_redo_entry, is_adopted_with, is_redo_file, is_adopted, Volume, volume_in, volume_of, is_used, is_gate_held, is_foreign_gated}
use Rattle.lif_model.specs.Writing.{slot_record, SlotWrites, IsSlotWritten, touched, records_on, with_records}
use Rattle.lif_model.proofs.Lists.{any_at, any_from}
use Rattle.lif_model.proofs.Fit.{IsPlaceIn}
use Rattle.lif_model.proofs.Redo.{length_changed, gate_at, zeros_are_shut, redo_closed, redo_places, settled_none}
use Rattle.lif_model.proofs.Volume.{volume_agrees}
use Rattle.lif_model.proofs.Adopted.{adopted_uses_below, clear_uses_below, clear_gate, settles_below_adopted, settles_below_clear}
use Rattle.lif_model.proofs.Directory.{volume_tells}
use Rattle.lif_model.proofs.Slotted.{IsOn, is_on}
use Rattle.lif_model.proofs.Places.{place_apart}
use Rattle.lif_model.proofs.Written.{Makes}
use Rattle.lif_model.proofs.Recorded.{records_replaced, records_count}

-- ---- what settles to a tape below the redo file

-- has its volume, where that volume is adopted with the version of the commit
pub settles_adopted : (version : Version) (n : ℕ) (t x : Tape) (v : Volume) → IsTape n t → volume_in t ≡ Some v
    → is_adopted_with n version v.slots ≡ true → SettlesBelow version t x
    → (volume_of x ≡ Some v) × (is_foreign_gated x ≡ false)
settles_adopted version n t x v tape is adopted settles =
    let tells = volume_tells t v is in
    let both = settles_below_adopted version t x tells.0 ((λ i. is_adopted_with (tape.records i) version (sym tells.2 i)) ∙ adopted) settles in
    (both.0 ∙ is, both.1)

-- or, in a commit of version 1, where no file reaches past the gate: the volume is adopted with any
-- version, or it is clear, or there is none
pub settles_clear : (n : ℕ) (t x : Tape) → IsTape n t → 4 < n
    → (is_legal t ≡ true → (is_adopted n (slots_of t) ≡ true) ⊎ (list_any (λ slot. nat_lt (gate_of n) (end_of slot)) (filter occupies (slots_of t)) ≡ false))
    → SettlesBelow One t x → (volume_of x ≡ volume_in t) × (is_foreign_gated x ≡ false)
settles_clear n t x tape long cases settles = settles_below_clear One t x (omega (arith, tape.records, long)) refl below (held (is_legal t) refl) settles
  where
    adopted_below : (k : ℕ) → is_legal t ≡ true → is_adopted n (slots_of t) ≡ true → is_used t k ≡ true → k < gate_of (length t)
    adopted_below k legal adopted used =
        let found = any_at [] (is_redo_file n) (slots_of t) adopted in
        let one = any_at One (λ version. is_redo_entry n version (get_or (slots_of t) found.0 [])) versions found.2 in
        let version : Version = get_or versions one.0 One in
        let with : is_adopted_with n version (slots_of t) ≡ true = any_from [] (is_redo_entry n version) (slots_of t) found.0 found.1 one.2 in
        let under = adopted_uses_below version t k legal ((λ i. is_adopted_with (tape.records i) version (slots_of t)) ∙ with) used in
        omega (arith, under, (redo_places version (length t)).0)

    at_length : list_any (λ slot. nat_lt (gate_of n) (end_of slot)) (filter occupies (slots_of t)) ≡ false
        → list_any (λ slot. nat_lt (gate_of (length t)) (end_of slot)) (filter occupies (slots_of t)) ≡ false
    at_length clear = (λ i. list_any (λ slot. nat_lt (gate_of (tape.records i)) (end_of slot)) (filter occupies (slots_of t))) ∙ clear

    below : is_legal t ≡ true → (k : ℕ) → is_used t k ≡ true → k < gate_of (length t)
    below legal k used = elim (cases legal) [
      | inl adopted ↦ adopted_below k legal adopted used
      | inr clear ↦ clear_uses_below t k legal (at_length clear) used
    ]

    held : (b : Bool) → is_legal t ≡ b → is_gate_held t ≡ false
    held false e = and_left (is_legal t) _ e
    held true e = elim (cases e) [
      | inl adopted ↦ and_right (is_legal t) _ (and_left _ _ (not_from_true _ ((λ i. is_adopted (tape.records i) (slots_of t)) ∙ adopted)))
      | inr clear ↦ clear_gate t (at_length clear)
    ]

-- ---- a commit

-- A stop in the commit leaves a tape with the volume before it or with the next one.
pub stop_leaves : (version : Version) (n : ℕ) (changes : Changes) (t x : Tape) (v w : Volume) → IsTape n t → volume_in t ≡ Some v
    → is_adopted_with n version v.slots ≡ true → Makes n v w (changed changes t)
    → IsOldOrNew version changes t x → ((volume_of x ≡ Some v) ⊎ (volume_of x ≡ Some w)) × (is_foreign_gated x ≡ false)
stop_leaves version n changes t x v w tape is adopted makes (inl old) = let both = settles_adopted version n t x v tape is adopted old in (inl both.0, both.1)
stop_leaves version n changes t x v w tape is adopted makes (inr new) =
    let both = settles_adopted version n (changed changes t) x w makes.tape makes.volume (makes.adopted version adopted) new in (inr both.0, both.1)

-- a committed tape is settled
pub committed_settled : (version : Version) (changes : Changes) (t x : Tape) → IsCommitted version changes t x → IsSettled x
committed_settled version changes t x done = settled_none x (redo_closed x (gate_at (length t) x done.records ∙ ap is_open done.gate ∙ zeros_are_shut))

pub committed_settles : (version : Version) (changes : Changes) (t x : Tape) → IsCommitted version changes t x
    → SettlesBelow version (changed changes t) x
committed_settles version changes t x done = record {
  records = done.records ∙ sym (length_changed changes t);
  same = λ k lt. ap (λ (s : Tape). record_at s k) (committed_settled version changes t x done) ∙ done.below k (subst (λ (m : ℕ). k < redo_start version m) (length_changed changes t) lt);
}

-- After an Ok stands the next volume.
pub commit_leaves : (version : Version) (n : ℕ) (changes : Changes) (t x : Tape) (v w : Volume) → is_adopted_with n version v.slots ≡ true
    → Makes n v w (changed changes t)
    → IsCommitted version changes t x → (volume_of x ≡ Some w) × (is_foreign_gated x ≡ false)
commit_leaves version n changes t x v w adopted makes done = settles_adopted version n (changed changes t) x w makes.tape makes.volume (makes.adopted version adopted) (committed_settles version changes t x done)

-- ---- what stays

target_filter : (y : Tape) (test : ℕ → Bool) (ks : List ℕ) (k : ℕ) → IsTarget (records_on y (filter test ks)) k → IsTarget (records_on y ks) k
target_filter y test [] k target = target
target_filter y test (j ∷ ks) k target = go (test j) target (λ rest. target_filter y test ks k rest)
  where
    go : (b : Bool) → IsTarget (records_on y (if b then j ∷ filter test ks else filter test ks)) k
        → (IsTarget (records_on y (filter test ks)) k → IsTarget (records_on y ks) k) → (k ≡ j) ⊎ IsTarget (records_on y ks) k
    go true (inl e) rest = inl e
    go true (inr more) rest = inr (rest more)
    go false more rest = inr (rest more)

-- a record that writes of slots change is that of a slot which is written
pub target_slot : (start : ℕ) (ws : SlotWrites) (y : Tape) (k : ℕ) → IsTarget (records_on y (touched start ws)) k
    → (j : ℕ) × IsSlotWritten ws j × (k ≡ slot_record start j)
target_slot start [] y k target = absurd target
target_slot start (w ∷ ws) y k (inl e) = (w.0, inl refl, e)
target_slot start (w ∷ ws) y k (inr more) = let found = target_slot start ws y k (target_filter y _ (touched start ws) k more) in (found.0, inr found.1, found.2)

-- ---- the file of a store

-- a tape with the file has the volume before it
pub file_aside : (n : ℕ) (u : Tape) (v : Volume) (bytes : List ℕ) (i start : ℕ) → IsTape n u → volume_in u ≡ Some v
    → IsPlaceIn n v (file_length bytes) i start
    → volume_in (with_records start (file_records bytes) u) ≡ Some v
file_aside n u v bytes i start tape is place =
    let on : IsOn n u v = is_on n u v tape is in
    let written : Replaced start (file_records bytes) u (with_records start (file_records bytes) u) = records_replaced start (file_records bytes) u (omega (arith, place.high, records_count bytes, tape.records, on.ends)) in
    volume_agrees (with_records start (file_records bytes) u) u written.records (λ k used. elim (place_apart n u v (file_length bytes) i start k tape is place used) [
      | inl before ↦ written.before k before
      | inr behind ↦ written.behind k (omega (arith, behind, records_count bytes))
    ]) ∙ is
