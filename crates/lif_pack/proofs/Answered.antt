-- Answers that are passed on, and what is known of a directory that was not read.
use Rattle.std.proofs.Common.{◌≡◌, ◌≤◌, ◌+◌, ℕ, List, [], ◌∷◌, Bool, true, false, not, Option, Some, None, Result, Ok, Err, inl, inr, refl, sym, ◌∙◌, ap, arith}
use Rattle.std.specs.Prelude.{IfSome, is_some, unwrap_or}
use Rattle.std.specs.Result.{IsErr, IsErrAnd}
use Rattle.lif_model.specs.Tape.{Tape, IsTape}
use Rattle.lif_model.specs.Header.{HeaderParts}
use Rattle.lif_model.specs.Redo.{settled}
use Rattle.lif_model.proofs.Redo.{settled_twice, length_settled}
use Rattle.lif_model.specs.Volume.{Volume, is_adopted, is_gate_held, volume_if, volume_in, volume_of}
use Rattle.lif_model.specs.Apply.{is_upgraded, first_met}
use Rattle.lif_model.specs.declared.refusal.Refusal.{Refusal}
use Rattle.lif_model.specs.declared.refusal.Refusal.TheVariants.{NotLif, NoRedo, NeedsUpgrade, OutOfOrder}
use Rattle.lif_model.specs.Transfers.{Transfer}
use Rattle.il_ports.specs.Transfers.{AddsOnly}
use Rattle.lif_model.proofs.Legal.{legal_tells}
use Rattle.lif_model.proofs.Slots.{readable_tells}
use Rattle.lif_plan.specs.Directories.{IsLegalDirectory}
use Rattle.lif_plan.specs.Refusals.{IsAmong}
use Rattle.lif_volume.specs.declared.fault.VolumeFault.{VolumeFault}
use Rattle.lif_volume.specs.declared.fault.VolumeFault.TheVariants.{Refused, Trouble as Troubled}
use Rattle.lif_volume.specs.declared.volume.Listing.{Listing}
use Rattle.lif_volume.specs.Answers.{store_answer, IsLegalAs, IsSettledAs}
use Rattle.lif_volume.specs.Commands.{mounting}
use Rattle.lif_volume.specs.Did.{IsOneOf}
use Rattle.lif_pack.specs.declared.reading.Readable.{Readable}
use Rattle.lif_model.specs.Packing.{is_in_order, has_mark, finished_volume_of, pack_refusal}
use Rattle.lif_pack.specs.declared.pack.Packed.{Packed}
use Rattle.lif_pack.specs.Packs.{IsRefusedTo}
use Rattle.lif_pack.proofs.Stopped.{upgraded_not_held}
use Rattle.lif_pack.proofs.Finishes.{unmarked_volume}

-- an error that is passed on as it is
pub passed_on : {T E : Type 0} (r : Result T E) (e : E) → IsErr r → IsErrAnd r (λ y. y ≡ e) → r ≡ Err e
passed_on (Ok x) e err same = cc
passed_on (Err y) e err same = ap Err same

-- what is none of anything is none
pub none_by : {X : Type 0} (o : Option X) → ((x : X) → o ≡ Some x → ⊥) → o ≡ None
none_by None off = refl
none_by (Some x) off = absurd (off x refl)

pub same_tape : (t u : Tape) (o : Option Tape) → o ≡ Some u → o ≡ Some t → u ≡ t
same_tape t u o one two = ap (λ (p : Option Tape). unwrap_or p t) (sym one ∙ two)

-- what an error tells of the store is told of any answer
pub adds_alike : (T U : Type 0) (fault : VolumeFault) (P : ℕ → Type 0) (old new : List Transfer → Type 0) → AddsOnly P old new (store_answer {T = T} (Err fault)) → AddsOnly P old new (store_answer {T = U} (Err fault))
adds_alike T U (Refused why) P old new adds = adds
adds_alike T U (Troubled trouble) P old new adds = adds

-- a directory that is read lies below the redo file
pub mounts_within : (n : ℕ) (old new : Option HeaderParts) (slots : List (List ℕ)) → 5 ≤ n → IfSome new (λ header. IsLegalDirectory n header slots) → mounting n old new ≤ n + 66
mounts_within n (Some was) new slots size legal = omega arith
mounts_within n None (Some header) slots size legal =
    let readable = readable_tells n legal.bytes (legal_tells n legal.bytes slots legal.legal).readable in
    omega (arith, readable.0, readable.1, readable.2, ap (λ (h : HeaderParts). h.length) legal.told)
mounts_within n None None slots size legal = omega arith

pub mounts_read : (n : ℕ) (old : Option HeaderParts) (header : HeaderParts) → mounting n old (Some header) ≤ 71 + header.length
mounts_read n None header = omega arith
mounts_read n (Some was) header = omega arith

-- where it is kept nothing is read
pub mounts_kept : (n : ℕ) (old new : Option HeaderParts) → is_some old ≡ true → mounting n old new ≡ 0
mounts_kept n None new none = cc
mounts_kept n (Some header) new is = refl

-- ---- no directory

-- a tape that is not legal is not packed
pub refused_by_dir : (n : ℕ) (t u : Tape) (fault : VolumeFault) (o : Option Tape) → o ≡ Some u → IsLegalAs {T = Listing} (settled t) (Err fault) → IsOneOf (NotLif ∷ []) fault
    → IsSettledAs t o (store_answer {T = Listing} (Err fault)) → IsRefusedTo {T = Readable} n t u (Err fault)
refused_by_dir n t u (Troubled trouble) o told legal only settles = tt
refused_by_dir n t u (Refused why) o told legal only settles =
    let none : volume_of t ≡ None = ap (λ (b : Bool). volume_if b (settled t)) legal in
    let shown : finished_volume_of t ≡ None = unmarked_volume t (ap (has_mark _) none) ∙ none in
    (ap (pack_refusal n) shown ∙ ap Some (sym (elim only [ inl e ↦ e | inr off ↦ absurd off ])), same_tape (settled t) u o told settles)

-- ---- a directory that is refused

-- by one of these
pub refused_among : (n : ℕ) (v : Volume) (why : Refusal) → Some why ≡ pack_refusal n (Some v) → IsAmong (NoRedo ∷ NeedsUpgrade ∷ OutOfOrder ∷ []) why
refused_among n v why is = by (is_adopted n v.slots) (is_upgraded n v) (is_in_order v.slots) is
  where
    from : (other : Refusal) → Some why ≡ Some other → why ≡ other
    from other same = ap (λ (o : Option Refusal). unwrap_or o why) same

    by : (a u o : Bool) → Some why ≡ first_met ((not a, NoRedo) ∷ (not u, NeedsUpgrade) ∷ (not o, OutOfOrder) ∷ []) → IsAmong (NoRedo ∷ NeedsUpgrade ∷ OutOfOrder ∷ []) why
    by false u o same = inl (from NoRedo same)
    by true false o same = inr (inl (from NeedsUpgrade same))
    by true true false same = inr (inr (inl (from OutOfOrder same)))
    by true true true same = cc

-- ---- a packing that is refused while it reads

pub refused_packing : (n : ℕ) (t u : Tape) (fault : VolumeFault) → IsRefusedTo {T = Readable} n t u (Err fault) → IsRefusedTo {T = Packed} n t u (Err fault)
refused_packing n t u (Refused why) is = is
refused_packing n t u (Troubled trouble) is = tt

-- no file that is not ours holds the gate record of a tape with a volume that may be packed
pub packable_own : (n : ℕ) (t : Tape) (v : Volume) → IsTape n t → volume_of (settled t) ≡ Some v → is_upgraded n v ≡ true → is_gate_held (settled t) ≡ true → ⊥
packable_own n t v is some up held =
    let clear = upgraded_not_held n (settled t) v (length_settled t ∙ is.records) (sym (ap volume_in (settled_twice t)) ∙ some) up in
    let no : true ≡ false = sym held ∙ clear in cc
