-- A listing of the directory and then a change, as one job.
use Rattle.std.proofs.Common.{◌≡◌, ◌∙◌, ℕ, Bool, true, false, List, Option, Some, None, inl, inr, ⊎_elim, refl, sym, ap, subst}
use Rattle.std.specs.Prelude.{◌==◌, is_some, if◌then◌else◌}
use Rattle.lif_model.specs.Apply.{VolumeCommand, Batch, Dir, apply}
use Rattle.lif_model.specs.Tape.{Tape}
use Rattle.lif_model.specs.Volume.{Volume}
use Rattle.il_script.specs.declared.reply.Reply.{Reply}
use Rattle.il_script.specs.declared.reply.Reply.TheVariants as reply
use Rattle.tape_volumes.specs.Volumes.{CommandDid, Mounted, StaysBeside, StopLeaves, VolumesView, volume_seen, volume_shown}
use Rattle.tape_volumes.specs.declared.went.Went.{Went}
use Rattle.tape_changes.specs.declared.replacing.NewFile.{NewFile}
use Rattle.tape_changes.specs.declared.replacing.Stored.{Stored}
use Rattle.tape_changes.specs.Changing.{Output}
use Rattle.tape_changes.specs.Replacing.{AfterListing, IsKindAt, OldOrNewIsLeft, ReplaceDid, StoredBy, after_any, command_by, kind_named, new_name_bytes, replacing_parts, with_stored}
use Rattle.tape_changes.proofs.Attempts.{seen_of, shown_of}
use Rattle.tape_changes.proofs.Joined.{beside_next, beside_none, beside_on}

-- the medium keeps its size
size_by : (command : Option VolumeCommand) (found : Option ℕ) (line : List ℕ) (st : Stored) (w : Went) (u t : Mounted) (old now : Output) → StoredBy command found line st w u t old now → t.records ≡ u.records
size_by (Some command) found line st w u t old now asked = asked.did.records
size_by None found line st w u t old now stays = ap (λ (m : Mounted). m.records) stays.1.1

size_after : (file : NewFile) (r : Reply) (line : List ℕ) (st : Stored) (w : Went) (u t : Mounted) (old now : Output) → AfterListing file r line st w u t old now → t.records ≡ u.records
size_after file reply.Ok line st w u t old now (found, is, by) = size_by (command_by file found) found line st w u t old now by
size_after file (reply.No code) line st w u t old now ends = ap (λ (m : Mounted). m.records) ends.1.1
size_after file reply.FaultFrame line st w u t old now ends = ap (λ (m : Mounted). m.records) ends.1.1
size_after file reply.FaultMedium line st w u t old now ends = ap (λ (m : Mounted). m.records) ends.1.1

pub replaced_size : (file : NewFile) (line : List ℕ) (st : Stored) (w : Went) (s t : Mounted) (old now : Output) → ReplaceDid file line st w s t old now → t.records ≡ s.records
replaced_size file line st w s t old now did = size_after file did.listed line st w did.between t old now did.rest ∙ did.did.records

-- ---- what a power stop leaves

-- a listing changes no volume
dir_same : (n : ℕ) (v : Option Volume) → (apply n Dir v).1 ≡ v
dir_same n None = refl
dir_same n (Some v) = refl

left_listing : (file : NewFile) (s : Mounted) (x : Tape) → StopLeaves Dir s x → OldOrNewIsLeft file s x
left_listing file s x left own = ⊎_elim (λ same. inl same) (λ made. inl (made ∙ dir_same s.records (volume_seen s.tape))) (left own)

-- a tape without a volume has none after the command, either
none_stays : (n : ℕ) (file : NewFile) (found : Option ℕ) (command : VolumeCommand) → command_by file found ≡ Some command → (apply n command None).1 ≡ None
none_stays n file None command is = ap (λ (c : Option VolumeCommand). after_none n c) (sym is)
  where
    after_none : ℕ → Option VolumeCommand → Option Volume
    after_none n (Some command) = (apply n command None).1
    after_none n None = None
none_stays n file (Some kind) command is = go (kind == file.kind) is
  where
    go : (b : Bool) → (if b then Some (Batch (replacing_parts file)) else None) ≡ Some command → (apply n command None).1 ≡ None
    go true is = ap (λ (c : Option VolumeCommand). after_none n c) (sym is)
      where
        after_none : ℕ → Option VolumeCommand → Option Volume
        after_none n (Some command) = (apply n command None).1
        after_none n None = None
    go false is = cc

applied : (n : ℕ) (file : NewFile) (found : Option ℕ) (command : VolumeCommand) → command_by file found ≡ Some command → (before : Option Volume)
    → ((v : Volume) → before ≡ Some v → found ≡ kind_named v (new_name_bytes file)) → (apply n command before).1 ≡ with_stored n file before
applied n file found command is None kinds = none_stays n file found command is
applied n file found command is (Some v) kinds = ap (λ (c : Option VolumeCommand). after_any n c v) (sym is ∙ ap (command_by file) (kinds v refl))

module _ (file : NewFile) (s u : Mounted) (did : CommandDid Dir reply.Ok s u) (told : is_some s.tape ≡ true) where
  shown_then : volume_shown u.tape ≡ Some (volume_seen s.tape)
  shown_then = (did.whole (volume_seen s.tape) (shown_of s.tape told)).1 ∙ ap Some (dir_same s.records (volume_seen s.tape))

  left_changing : (found : Option ℕ) → IsKindAt (volume_shown u.tape) (new_name_bytes file) found → (command : VolumeCommand) → command_by file found ≡ Some command
      → (x : Tape) → StopLeaves command u x → OldOrNewIsLeft file s x
  left_changing found is command by x left own =
      let seen : volume_seen u.tape ≡ volume_seen s.tape = seen_of u.tape (volume_seen s.tape) shown_then in
      ⊎_elim (λ same. inl (same ∙ seen))
      (λ made. inr (made ∙ (λ i. (apply (did.records i) command (seen i)).1)
      ∙ applied s.records file found command by (volume_seen s.tape) (λ v at. is v (shown_then ∙ ap Some at)))) (left (did.own own))

module _ (file : NewFile) (r : Reply) (v u : VolumesView) (did : CommandDid Dir r v.mounted u.mounted) (beside : StaysBeside (StopLeaves Dir v.mounted) v u) where
  pub beside_listing : StaysBeside (OldOrNewIsLeft file v.mounted) v u
  beside_listing =
      beside_next 0 (OldOrNewIsLeft file v.mounted) (StopLeaves Dir v.mounted) v v u refl (λ told x left. left_listing file v.mounted x left) (beside_none (OldOrNewIsLeft file v.mounted) v) beside

  pub beside_changing : r ≡ reply.Ok → (found : Option ℕ) → IsKindAt (volume_shown u.mounted.tape) (new_name_bytes file) found → (command : VolumeCommand) → command_by file found ≡ Some command
      → (w : VolumesView) → StaysBeside (StopLeaves command u.mounted) u w → StaysBeside (OldOrNewIsLeft file v.mounted) v w
  beside_changing ok found is command by w later =
      beside_next 1 (OldOrNewIsLeft file v.mounted) (StopLeaves command u.mounted) v u w did.seen
      (λ told x left. left_changing file v.mounted u.mounted (subst (λ (r : Reply). CommandDid Dir r v.mounted u.mounted) ok did) told found is command by x left)
      (beside_on 0 (OldOrNewIsLeft file v.mounted) v u beside_listing) later
