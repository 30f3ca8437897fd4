-- What a command makes of a volume whose directory is kept: first the file, where it has one, and then the commit.
use Rattle.std.proofs.Common.{◌≡◌, ◌⊎◌, ◌<◌, ◌≤◌, ◌+◌, ◌-◌, ◌*◌, ◌/◌, ◌%◌, ◌++◌, ◌&&◌, not, ⊎_elim, ℕ, List, [], ◌∷◌, Bool, true, false, if◌then◌else◌, length, map, get_or, min, inl, inr, refl, sym, ap, subst, ◌∙◌, arith, append_assoc}
use Rattle.std.specs.Prelude.{All, Option, Some, None, Result, Ok, Err, OnOk, IfSome}
use Rattle.std.specs.FinMap.{empty}
use Rattle.std.proofs.lemmas.List.{append-nil, length-map}
use Rattle.lif_model.specs.Tape.{Tape, IsTape, record_at}
use Rattle.lif_model.specs.Gate.{gate_of, is_open, has_open_gate}
use Rattle.lif_model.specs.Header.{HeaderParts, header_of, directory_start}
use Rattle.lif_model.specs.Directory.{entry_at, slots_of}
use Rattle.lif_model.specs.Made.{file_length, file_records}
use Rattle.lif_model.specs.declared.version.Version.{Version}
use Rattle.lif_model.specs.declared.refusal.Refusal.{Refusal}
use Rattle.lif_model.specs.Redo.{redo_start, settled, Changes, targets_in, IsSettled, is_none}
use Rattle.lif_model.specs.Commit.{IsOldOrNew, IsCommitted, commit_writes}
use Rattle.lif_model.specs.Transfers.{Transfer}
use Rattle.lif_model.specs.Volume.{Volume, IsVolume, volume_in, volume_of, is_foreign_gated, is_gate_held}
use Rattle.lif_model.specs.Fit.{Place}
use Rattle.lif_model.specs.Apply.{VolumeCommand, Dir, Label, Fetch, Store, Rename, Purge, Adopt, Upgrade, Batch, Format, refusal_of, apply, volume_after}
use Rattle.lif_model.specs.Writing.{entry_from, NewFile, with_files, touched, with_slots, changes_at, changes_by, changes_of, chosen_place, with_file}
use Rattle.lif_model.proofs.Moments.{follows, weaker}
use Rattle.lif_model.proofs.Redo.{zeros_are_shut, gate_at, same_gate, settled_none, settled_has_none}
use Rattle.lif_model.proofs.Writing.{targets_are}
use Rattle.lif_model.proofs.Recorded.{records_count}
use Rattle.lif_model.proofs.Legal.{legal_tells, legal_from}
use Rattle.lif_model.proofs.Slots.{readable_tells}
use Rattle.lif_model.proofs.Apply.{refused_stays, accepted}
use Rattle.lif_model.proofs.Directory.{slot_at, volume_tells, volume_from, volume_in_is}
use Rattle.lif_model.proofs.Outcomes.{committed_settled}
use Rattle.lif_model.proofs.StoredFile.{storable}
use Rattle.lif_model.proofs.Places.{IsAside, aside}
use Rattle.lif_model.proofs.NewFiles.{IsAsideFile, some_aside, next_aside, aside_has_volume, files_shape, files_elsewhere, files_again}
use Rattle.il_ports.specs.declared.records.Trouble.{Trouble}
use Rattle.il_ports.specs.Stores.{RecordsView, IsStore, IsReady, StoredRun}
use Rattle.il_ports.proofs.Stores.{goes_nowhere, goes_further, goes_within, quiet_run, quiet_nowhere}
use Rattle.lif_redo.specs.Writing.{writes_among, AreSingle, runs_filed}
use Rattle.lif_redo.proofs.Told.{was_told}
use Rattle.lif_dir.specs.declared.change.Change.{Change}
use Rattle.lif_dir.specs.Entries.{slot_of, slot_from, slot_bytes}
use Rattle.lif_dir.specs.Changes.{IsToldBack, change_writes, slots_with, count_with}
use Rattle.lif_dir.proofs.Changing.{changed_bytes, told_back}
use Rattle.lif_commit.proofs.Staging.{count_is}
use Rattle.lif_model.specs.Shelf.{cut}
use Rattle.lif_plan.specs.Plans.{PlacesFileOf}
use Rattle.lif_redo.specs.Atomic.{commit_calls}
use Rattle.lif_commit.specs.Staged.{Knows, EndsWith, CommitsSlots, past_end, calls_among, calls_of}
use Rattle.lif_plan.specs.Directories.{IsLegalDirectory}
use Rattle.lif_plan.specs.Plans.{CommitsWith, IsVolumeWith, RefusesAs, ChangesNothing, MakesChange}
use Rattle.lif_model.specs.Changing.{version_for, files_when, file_when, changes_when, changes_filed, IsChanged}
use Rattle.lif_plan.proofs.Planning.{version_agrees}
use Rattle.lif_volume.specs.declared.fault.VolumeFault.{VolumeFault}
use Rattle.lif_volume.specs.declared.fault.VolumeFault.TheVariants.{Refused, Trouble as Troubled}
use Rattle.lif_volume.specs.Views.{VolumeView, IsOpen, IsDirectoryOf}
use Rattle.lif_volume.specs.Changing.{file_runs, writes_if_any, beside, records_stored, carrying, committing_on, carrying_on, HasEitherVolume, VolumeTurns}
use Rattle.lif_volume.specs.Carrying.{HasFile, file_count, records_filed, IsPartlyFiled, some_stand, next_begun, WritesFiles, changes_made, PutsFile, Puts, CarriesOut}
use Rattle.lif_volume.proofs.Mounting.{kept_is_of, volume_on}
use Rattle.lif_volume.proofs.Fetching.{legal_of}
use Rattle.lif_volume.proofs.Gated.{rests_held}
use Rattle.lif_volume.proofs.Making.{files_are, files_spare, changes_are, header_stays, next_volume, ends_before, stops_leave, commit_makes, without_file, old_or_new_length}
use Rattle.lif_volume.proofs.Filing.{files_none, files_one_more}
use Rattle.lif_volume.proofs.Planned.{Planned, LiesBeside, LeavesTape, IsPlanned, most_calls, changed_some, writes_some, one_change, file_of_change, no_file, is_one_change}

-- ---- from a directory that is kept

pub same_tape : (t u : Tape) (tape : Option Tape) → tape ≡ Some t → tape ≡ Some u → u ≡ t
same_tape t u tape first second = let both : Some t ≡ Some u = sym first ∙ second in cc

module _ {R S : Type 0} (view : R → RecordsView S) (x : VolumeView R) (header : HeaderParts) (opened : IsOpen view x) (kept : x.kept ≡ Some header) (store : IsStore (view x.records)) where
  abbrev n : ℕ
  n = (view x.records).record_count

  abbrev slots : List (List ℕ)
  slots = map slot_bytes x.slots

  pub legal : IsLegalDirectory (view x.records).record_count header (map slot_bytes x.slots)
  legal = legal_of view x header (view x.records).record_count opened kept refl

  pub readable : (0 < header.start) × (header.start + header.length ≤ n - 4)
  readable =
      let is = readable_tells n legal.bytes (legal_tells n legal.bytes slots legal.legal).readable in
      (omega (arith, is.0, ap (λ (h : HeaderParts). h.start) legal.told), omega (arith, is.2, ap (λ (h : HeaderParts). h.start) legal.told, ap (λ (h : HeaderParts). h.length) legal.told))

  -- some volume with it
  abbrev pub some : Volume
  some = record { header = legal.bytes; slots = map slot_bytes x.slots; files = empty }

  pub some_is : IsVolumeWith (view x.records).record_count header (map slot_bytes x.slots) some
  some_is = record {
    volume = record {
      header = legal.whole;
      legal = legal_tells (view x.records).record_count legal.bytes (map slot_bytes x.slots) legal.legal;
      room = omega (arith, legal.shape.few, ap (λ (h : HeaderParts). h.length) legal.told);
      entries = legal.shape.entries;
      kinds = legal.shape.kinds;
    };
    told = sym legal.told;
    same = refl;
  }

  -- the volume of the tape
  module _ (t : Tape) (told : (view x.records).tape ≡ Some t) where
    pub on : IsDirectoryOf t header x.slots
    on = kept_is_of x header t kept (opened.known t told)

    pub tape : IsTape (view x.records).record_count t
    tape = store.is_tape t told

    pub within : volume_in t ≡ Some (volume_on t)
    within = volume_from t on.directory.legal

    volume_is : volume_of t ≡ Some (volume_on t)
    volume_is = ap volume_in on.settled ∙ within

    pub with_is : IsVolumeWith (view x.records).record_count header (map slot_bytes x.slots) (volume_on t)
    with_is = record { volume = volume_in_is (view x.records).record_count t (volume_on t) tape within; told = sym on.directory.header; same = sym on.directory.bytes }

    own_gate : is_foreign_gated t ≡ false
    own_gate = ap (λ (cs : Changes). not (is_none cs) && is_gate_held (settled t)) (settled_has_none t on.settled)

  -- a command that changes nothing is no store
  pub nothing_is_no_store : (command : VolumeCommand) (file : Option (List ℕ)) → HasFile command file → ChangesNothing (view x.records).record_count command header (map slot_bytes x.slots) → HasFile command None
  nothing_is_no_store Dir file has plan = refl
  nothing_is_no_store Label file has plan = refl
  nothing_is_no_store (Fetch name) file has plan = refl
  nothing_is_no_store (Store name kind implementation bytes) file has plan =
      let can = storable n some name kind implementation bytes (plan.free some some_is) in
      let none = sym (ap (λ (p : Place). changes_at n (Store name kind implementation bytes) some p []) can.chosen) ∙ plan.nothing some some_is [] in cc
  nothing_is_no_store (Rename old later) file has plan = refl
  nothing_is_no_store (Purge name) file has plan = refl
  nothing_is_no_store Adopt file has plan = refl
  nothing_is_no_store Upgrade file has plan = refl
  nothing_is_no_store (Batch parts) file has plan = absurd has
  nothing_is_no_store (Format label slots) file has plan = refl

  module _ (command : VolumeCommand) where
    module _ (t : Tape) (told : (view x.records).tape ≡ Some t) where
      here : HasEitherVolume (view x.records).record_count command t t
      here = record { records = refl; volume = inl refl; own_gate = own_gate t told }

      pub rests : VolumeTurns (view x.records).record_count command (view x.records) (view x.records) t
      rests = record { stops = quiet_run (view x.records) (view x.records) _ t store (quiet_nowhere (view x.records)) told here; after = (t, told, here) }

      applied : refusal_of (view x.records).record_count command (Some (volume_on t)) ≡ None
          → apply (view x.records).record_count command (volume_of t) ≡ (None, Some (volume_after (view x.records).record_count command (volume_on t)))
      applied free = ap (apply (view x.records).record_count command) (volume_is t told) ∙ accepted (view x.records).record_count command (volume_on t) free

    -- the command is refused
    pub refuses : (calls : ℕ) (why : Refusal) → IsReady calls (view x.records) → RefusesAs (view x.records).record_count command header (map slot_bytes x.slots) why
        → CarriesOut {T = Unit {0}} command view x x (Err (Refused why))
    refuses calls why ready plan = record {
      goes_on = goes_within 0 (carrying {T = Unit {0}} n command x.kept (Err (Refused why))) _ _ _ (omega arith) (goes_nowhere calls (view x.records) ready);
      idle = λ none. refl;
      idle_on = λ t told files changes. refl;
      held = λ t told on. refl;
      kept = sym (ap (λ (b : Bool). if b then x.kept else None) plan.known);
      on_tape = λ t told. record {
        few = omega arith;
        written = λ u now. same_tape t u _ told now;
        answers = λ u now. refused_stays n command (volume_of t) why (ap (refusal_of n command) (volume_is t told) ∙ plan.refused (volume_on t) (with_is t told))
            ∙ ap (λ (w : Tape). (Some why, volume_of w)) (sym (same_tape t u _ told now));
        stops = rests t told;
        added = record { goes_on = λ list was. ([], subst (view x.records).transferred (sym (append-nil list)) was, tt) };
      };
    }

    -- it changes nothing, and has no file
    module _ (plan : (t : Tape) → (view x.records).tape ≡ Some t → LeavesTape n command (volume_on t) t) where
      files_not : (t : Tape) → (view x.records).tape ≡ Some t → files_when n command (volume_of t) ≡ []
      files_not t told = ap (files_when n command) (volume_is t told) ∙ files_are n command (volume_on t) ∙ (plan t told).files

      pub changes_nothing : (calls : ℕ) → IsReady calls (view x.records) → CarriesOut {T = Unit {0}} command view x x (Ok tt)
      changes_nothing calls ready = record {
        goes_on = goes_within 0 (carrying {T = Unit {0}} n command x.kept (Ok tt)) _ _ _ (omega arith) (goes_nowhere calls (view x.records) ready);
        idle = λ none. refl;
        idle_on = λ t told files changes. refl;
        held = λ t told on. refl;
        kept = refl;
        on_tape = λ t told.
            let is = plan t told in
            let file : file_when n command (volume_of t) t ≡ t = ap (λ (fs : List NewFile). with_files fs t) (files_not t told) in
            let none : changes_filed n command (volume_of t) t ≡ [] = (λ i. changes_when n command (volume_is t told i) (file i)) ∙ is.changes in
            record {
              few = omega arith;
              written = λ u now. subst (λ (cs : Changes). IsChanged (version_for n command (volume_of t)) cs (file_when n command (volume_of t) t) u) (sym none) (same_tape t u _ told now ∙ sym file);
              answers = λ u now. applied t told is.free ∙ ap (λ (w : Volume). (None, Some w)) is.same
                  ∙ ap (λ (w : Option Volume). (None, w)) (sym (volume_is t told) ∙ ap volume_of (sym (same_tape t u _ told now)));
              stops = rests t told;
              added = record {
                goes_on = λ list was. (
                  [],
                  [],
                  subst (view x.records).transferred (sym (append-nil list)) was,
                  tt,
                  λ on. refl,
                  record {
                    more = [];
                    are = ap (λ (fs : List NewFile). runs_filed fs ++ []) (sym (files_not t told));
                    writes = sym (ap (writes_if_any (version_for n command (volume_of t)) n (has_open_gate (file_when n command (volume_of t) t))) none);
                    single = tt;
                  },
                );
              };
            };
      }

    -- a command by itself so
    pub plan_leaves : (file : Option (List ℕ)) → HasFile command file → ChangesNothing (view x.records).record_count command header (map slot_bytes x.slots)
        → (t : Tape) → (view x.records).tape ≡ Some t → LeavesTape n command (volume_on t) t
    plan_leaves file has plan t told =
        let plain = without_file command (nothing_is_no_store command file has plan) in
        record {
          free = plan.free (volume_on t) (with_is t told);
          changes = plan.nothing (volume_on t) (with_is t told) t;
          same = plan.same (volume_on t) (with_is t told);
          files = sym (files_are n command (volume_on t)) ∙ plain n (Some (volume_on t));
        }

    -- one change so
    pub of_change : (change : Change) → MakesChange (view x.records).record_count command header (map slot_bytes x.slots) change
        → IsPlanned (view x.records).record_count command header (map slot_bytes x.slots) (one_change header (map slot_bytes x.slots) command change)
    of_change change plan = is_one_change n header slots change readable.0 command plan

    -- it changes slots
    module _ {p : Planned} (plan : IsPlanned (view x.records).record_count command header (map slot_bytes x.slots) p) where
      abbrev start : ℕ
      start = header.start

      abbrev calls : ℕ
      calls = calls_among header.start (length x.slots) x.is_open p.numbers

      commits_some : CommitsWith n p.version command some
      commits_some = plan.commits some some_is

      pub before_redo : header.start + header.length ≤ redo_start p.version (view x.records).record_count
      before_redo =
          let ends = ends_before n p.version command some some_is.volume commits_some in
          omega (arith, ends, ap (λ (h : HeaderParts). h.start) legal.told, ap (λ (h : HeaderParts). h.length) legal.told)

      -- ---- the tape with the files

      module _ (t : Tape) (told : (view x.records).tape ≡ Some t) where
        abbrev v : Volume
        v = volume_on t

        -- as the clauses say it
        abbrev filed : Tape
        filed = file_when n command (volume_of t) t

        free : refusal_of n command (Some v) ≡ None
        free = plan.free v (with_is t told)

        commits_here : CommitsWith n p.version command v
        commits_here = plan.commits v (with_is t told)

        pub planned : files_when n command (volume_of t) ≡ p.files
        planned = ap (files_when n command) (volume_is t told) ∙ files_are n command v ∙ plan.left v (with_is t told)

        filed_is : filed ≡ with_files p.files t
        filed_is = ap (λ (fs : List NewFile). with_files fs t) (planned)

        settled_here : IsSettled t
        settled_here = (on t told).settled

        spare : All (IsAsideFile p.version t) p.files
        spare = subst (All (IsAsideFile p.version t)) (plan.left v (with_is t told)) (files_spare n p.version t v (tape t told) (within t told) command plan.formed commits_here free)

        -- the records that the volume uses, the gate and the targets are none of theirs
        lies_aside : IsAside t filed
        lies_aside = subst (IsAside t) (sym filed_is) (some_aside p.version t p.files [] (subst (All (IsAsideFile p.version t)) (sym (append-nil p.files)) spare))

        holds : IsTape n filed × (volume_in filed ≡ Some v)
        holds = (subst (IsTape n) (sym filed_is) (files_shape n p.files t (tape t told)), aside_has_volume t filed lies_aside ∙ within t told)

        -- and those of the directory too
        elsewhere : (k : ℕ) → (k < header.start + header.length) ⊎ (n - 4 ≤ k) → record_at filed k ≡ record_at t k
        elsewhere k off = ap (λ (f : Tape). record_at f k) filed_is ∙ files_elsewhere p.files t k (λ i d lt. elim off [
          | inl low ↦ inl (omega (arith, low, (plan.lie i d lt).0))
          | inr high ↦ inr (omega (arith, high, (plan.lie i d lt).1))
        ])

        begins : directory_start (record_at t 0) ≡ header.start
        begins = sym (ap (λ (h : HeaderParts). h.start) (on t told).directory.header)

        begins_filed : directory_start (record_at filed 0) ≡ header.start
        begins_filed = ap directory_start (elsewhere 0 (inl (omega (arith, readable.0)))) ∙ begins

        gate_here : x.is_open ≡ has_open_gate t
        gate_here = subst (λ (o : Option HeaderParts). IfSome o (λ h. x.is_open ≡ has_open_gate t)) kept (opened.gate t told)

        pub gate_filed : x.is_open ≡ has_open_gate filed
        gate_filed = gate_here ∙ sym (same_gate filed t (holds.0.records ∙ sym (tape t told).records) (elsewhere (gate_of (length t)) (inr (omega (arith, (tape t told).records)))))

        pub knows_filed : Knows header.start header.length (map slot_bytes x.slots) x.last filed
        knows_filed = record { each = each; end = end }
          where
            count : length (map slot_bytes x.slots) ≡ length x.slots
            count = length-map x.slots slot_bytes

            each : (k : ℕ) → k < length slots → get_or slots k [] ≡ entry_from filed header.start k
            each k lt =
                ap (λ (xs : List (List ℕ)). get_or xs k []) (on t told).directory.bytes
                ∙ slot_at t k (omega (arith, lt, ap length (on t told).directory.bytes))
                ∙ ap (λ (s : ℕ). entry_at (record_at t (s + k / 8)) (k % 8)) begins
                ∙ ap (λ (r : List ℕ). entry_at r (k % 8)) (sym (elsewhere (header.start + k / 8) (inl (omega (arith, lt, legal.shape.few)))))

            end : EndsWith header.start header.length (length slots) x.last filed
            end short =
                subst (λ (o : Option HeaderParts). IfSome o (λ h. EndsWith h.start h.length (length x.slots) x.last t)) kept (opened.end t told) (omega (arith, short, count))
                ∙ ap (λ (k : ℕ). record_at t (header.start + k / 8)) (sym count)
                ∙ sym (elsewhere (header.start + length slots / 8) (inl (omega (arith, short))))

        -- to write them once more changes nothing
        again : with_file n command v (chosen_place n command v) filed ≡ filed
        again =
            ap (λ (fs : List NewFile). with_files fs filed) (plan.left v (with_is t told)) ∙ ap (with_files p.files) filed_is
            ∙ files_again p.files t (λ k d lt. (spare k d lt).1) ∙ sym filed_is

        pub filed_settled : IsSettled filed
        filed_settled = settled_none filed (aside t filed settled_here lies_aside).0

        abbrev made : Changes
        made = changes_made header.start p.slots filed

        of_volume : changes_of n command v filed ≡ made
        of_volume =
            changes_are n p.version command v filed commits_here ∙ (λ i. changes_by (begins i) (plan.writes v (with_is t told) filed begins_filed i) filed)

        changes_is : changes_filed n command (volume_of t) t ≡ made
        changes_is = ap (λ (w : Option Volume). changes_when n command w filed) (volume_is t told) ∙ of_volume

        version_is : version_for n command (volume_of t) ≡ p.version
        version_is = ap (version_for n command) (volume_is t told) ∙ version_agrees n p.version command v (with_is t told).volume commits_here

        -- ---- how many calls

        targets_are_touched : targets_in made ≡ p.numbers
        targets_are_touched = targets_are (touched header.start (p.slots filed)) (with_slots header.start (p.slots filed) filed) ∙ plan.touches filed

        many : length made ≡ length p.numbers
        many = sym (length-map made (λ c. c.0)) ∙ ap length targets_are_touched

        some_made : 0 < length made
        some_made = omega (arith, many, plan.some)

        -- as the clauses say it
        calls_are : past_end (directory_start (record_at t 0)) (length (slots_of t)) (targets_in made) + commit_calls (has_open_gate t) (length made) ≡ calls
        calls_are = λ i. past_end (begins i) (count i) (targets_are_touched i) + commit_calls (sym gate_here i) (many i)
          where
            count : length (slots_of t) ≡ length x.slots
            count = sym (ap length (on t told).directory.bytes) ∙ length-map x.slots slot_bytes

        committing_is : (c : VolumeCommand) → CommitsWith n p.version c v → (cs : Changes) → cs ≡ made
            → (committing_on {T = Unit {0}} c t cs (Ok tt) ≡ calls)
            × ((e : Trouble) → committing_on {T = Unit {0}} c t cs (Err (Troubled e)) ≡ calls)
        committing_is c commits [] is = absurd (omega (arith, ap length is, many, plan.some))
        committing_is c commits (m ∷ ms) is = by c commits
          where
            both : past_end (directory_start (record_at t 0)) (length (slots_of t)) (targets_in (m ∷ ms)) + commit_calls (has_open_gate t) (length (m ∷ ms)) ≡ calls
            both = ap (λ (cs : Changes). past_end (directory_start (record_at t 0)) (length (slots_of t)) (targets_in cs) + commit_calls (has_open_gate t) (length cs)) is ∙ calls_are

            by : (c : VolumeCommand) → CommitsWith n p.version c v
                → (committing_on {T = Unit {0}} c t (m ∷ ms) (Ok tt) ≡ calls)
                × ((e : Trouble) → committing_on {T = Unit {0}} c t (m ∷ ms) (Err (Troubled e)) ≡ calls)
            by Dir never = absurd never
            by Label never = absurd never
            by (Fetch name) never = absurd never
            by (Store name kind implementation bytes) commits = (both, λ e. both)
            by (Rename old later) commits = (both, λ e. both)
            by (Purge name) commits = (both, λ e. both)
            by Adopt commits = (both, λ e. both)
            by Upgrade commits = (both, λ e. both)
            by (Batch parts) commits = (both, λ e. both)
            by (Format label slots) never = absurd never

        -- no more than the clauses say
        few_of : (c : VolumeCommand) → CommitsWith n p.version c v → file_count c ≤ beside n (Some header)
            → (file_count c + calls ≤ carrying_on {T = Unit {0}} n c t made (Ok tt)) × ((e : Trouble) → file_count c + calls ≤ carrying_on {T = Unit {0}} n c t made (Err (Troubled e)))
        few_of Dir never fits = absurd never
        few_of Label never fits = absurd never
        few_of (Fetch name) never fits = absurd never
        few_of (Store name kind implementation bytes) commits fits =
            let is = committing_is (Store name kind implementation bytes) commits made refl in
            let few : length (file_records bytes) ≤ min (beside n None) (file_length bytes) = omega (arith, records_count bytes, fits) in
            (omega (arith, few, is.0), λ e. omega (arith, few, is.1 e))
        few_of (Rename old later) commits fits = let is = committing_is (Rename old later) commits made refl in (omega (arith, is.0), λ e. omega (arith, is.1 e))
        few_of (Purge name) commits fits = let is = committing_is (Purge name) commits made refl in (omega (arith, is.0), λ e. omega (arith, is.1 e))
        few_of Adopt commits fits = let is = committing_is Adopt commits made refl in (omega (arith, is.0), λ e. omega (arith, is.1 e))
        few_of Upgrade commits fits = let is = committing_is Upgrade commits made refl in (omega (arith, is.0), λ e. omega (arith, is.1 e))
        few_of (Batch parts) commits fits =
            let is = committing_is (Batch parts) commits made refl in
            let few : records_stored parts ≤ min (beside n None) (records_stored parts) = omega (arith, fits) in
            (omega (arith, few, is.0), λ e. omega (arith, few, is.1 e))
        few_of (Format label slots) never fits = absurd never

        -- ---- what a stop leaves, and what comes after

        either : (c : Tape) → IsOldOrNew p.version made filed c → HasEitherVolume n command t c
        either c left =
            let both = stops_leave n p.version filed v holds.0 holds.1 c command plan.formed commits_here free
            (subst (λ (f : Tape). IsOldOrNew p.version (changes_of n command v filed) f c) (sym again) (subst (λ (cs : Changes). IsOldOrNew p.version cs filed c) (sym of_volume) left)) in
            record {
              records = old_or_new_length p.version made filed c left ∙ (holds.0.records ∙ sym (tape t told).records);
              volume = elim both.0 [
                | inl e ↦ inl (e ∙ sym (volume_is t told))
                | inr e ↦ inr (plan.formed, e ∙ sym (ap (λ (p : Option Refusal × Option Volume). p.1) (applied t told free)))
              ];
              own_gate = both.1;
            }

        now_is : (u : Tape) → IsCommitted p.version made filed u → volume_of u ≡ Some (volume_after n command v)
        now_is u done = (commit_makes n p.version filed v holds.0 holds.1 u command plan.formed commits_here free
            (subst (λ (f : Tape). IsCommitted p.version (changes_of n command v filed) f u) (sym again) (subst (λ (cs : Changes). IsCommitted p.version cs filed u) (sym of_volume) done))).0

        -- while the files are written
        pub partly : (c : Tape) → IsPartlyFiled p.files t c → HasEitherVolume n command t c
        partly c left = by left
          where
            of : IsAside t c → HasEitherVolume n command t c
            of is = let tells = aside t c settled_here is in record { records = is.records; volume = inl tells.1; own_gate = tells.2 }

            by : IsPartlyFiled p.files t c → HasEitherVolume n command t c
            by (some_stand done rest same is) = of (subst (IsAside t) (sym is) (some_aside p.version t done rest (subst (All (IsAsideFile p.version t)) same spare)))
            by (next_begun done next rest same begun) = of (next_aside p.version t done next rest c (subst (All (IsAsideFile p.version t)) same spare) begun)

      -- ---- the files

      pub files_put : (w : RecordsView S) (r : Result (Unit {0}) Trouble) → WritesFiles p.files (view x.records) w r → PutsFile command (view x.records) w r
      files_put w r files = record {
        goes_on = goes_within (records_filed p.files) (file_count command) _ _ _ plan.count files.goes_on;
        on_tape = λ t told. record {
          stops = record {
            stops = weaker _ _ _ _ (HasEitherVolume n command t) (IsPartlyFiled p.files t) (files.stops t told) (λ c left. partly t told c left);
            after = let left = files.after t told in (left.0, left.1, partly t told left.0 left.2);
          };
          done = done_by r files t told;
          added = added_by r files t told;
        };
      }
        where
          done_by : (r : Result (Unit {0}) Trouble) → WritesFiles p.files (view x.records) w r → (t : Tape) → (view x.records).tape ≡ Some t → OnOk r (w.tape ≡ Some (file_when n command (volume_of t) t))
          done_by (Ok y) files t told = files.done t told ∙ ap Some (sym (filed_is t told))
          done_by (Err e) files t told = tt

          added_by : (r : Result (Unit {0}) Trouble) → WritesFiles p.files (view x.records) w r → (t : Tape) → (view x.records).tape ≡ Some t
              → OnOk r ((list : List Transfer) → (view x.records).transferred list → w.transferred (list ++ file_runs n command (volume_of t)))
          added_by (Ok y) files t told = λ list was. subst (λ (fs : List NewFile). w.transferred (list ++ runs_filed fs)) (sym (planned t told)) (files.added list was)
          added_by (Err e) files t told = tt

      -- those of a command that has none
      pub none_put : (calls : ℕ) → IsReady calls (view x.records) → p.files ≡ [] → PutsFile {T = Unit {0}} command (view x.records) (view x.records) (Ok tt)
      none_put calls ready none = files_put (view x.records) (Ok tt)
          (subst (λ (fs : List NewFile). WritesFiles {T = Unit {0}} fs (view x.records) (view x.records) (Ok tt)) (sym none) (files_none (view x.records) store calls ready))

      -- and of one that has one
      pub one_put : (calls : ℕ) → IsReady calls (view x.records) → (f : NewFile) → p.files ≡ f ∷ [] → (w : RecordsView S) (r : Result (Unit {0}) Trouble) → StoredRun f.start (file_records f.bytes) (view x.records) w r
          → PutsFile command (view x.records) w r
      one_put calls ready f one w r run =
          let lies : All (LiesBeside n header) (f ∷ []) = subst (All (LiesBeside n header)) one plan.lie in
          files_put w r (subst (λ (fs : List NewFile). WritesFiles fs (view x.records) w r) (sym one)
          (files_one_more (view x.records) store [] f (view x.records) w (files_none (view x.records) store calls ready) (omega (arith, (lies 0 f (omega arith)).1)) r run))

      -- ---- the files and the commit

      pub puts_fail : (calls : ℕ) (w : RecordsView S) (e : Trouble) → PutsFile {T = Unit {0}} command (view x.records) w (Err e)
          → Puts {T = Unit {0}} calls command p.version header.start p.slots (view x.records) w (Err e)
      puts_fail calls w e files = record {
        goes_on = goes_within (file_count command) (file_count command + calls) _ _ _ (omega arith) files.goes_on;
        on_tape = λ t told. record { stops = (files.on_tape t told).stops; done = tt; added = tt };
      }

      module _ (w : RecordsView S) (files : PutsFile {T = Unit {0}} command (view x.records) w (Ok tt)) where
        -- the store is ready for the commit
        pub commit_ready : (most : ℕ) → IsReady (beside n (Some header) + most) (view x.records) → IsReady most w
        commit_ready most ready = record { valid = files.goes_on.continues.valid; sound = files.goes_on.continues.sound; left = omega (arith, ready.left, files.goes_on.continues.left, plan.fits) }

        pub settled_there : (f : Tape) → w.tape ≡ Some f → IsSettled f
        settled_there f now =
            let was = was_told _ _ files.goes_on.continues.told f now in
            subst (λ (c : Tape). IsSettled c) (sym (same_tape (file_when n command (volume_of was.0) was.0) f _ (files.on_tape was.0 was.1).done now)) (filed_settled was.0 was.1)

        pub gate_there : (f : Tape) → w.tape ≡ Some f → x.is_open ≡ has_open_gate f
        gate_there f now =
            let was = was_told _ _ files.goes_on.continues.told f now in
            subst (λ (c : Tape). x.is_open ≡ has_open_gate c) (sym (same_tape (file_when n command (volume_of was.0) was.0) f _ (files.on_tape was.0 was.1).done now)) (gate_filed was.0 was.1)

        pub knows_there : (f : Tape) → w.tape ≡ Some f → Knows header.start header.length (map slot_bytes x.slots) x.last f
        knows_there f now =
            let was = was_told _ _ files.goes_on.continues.told f now in
            subst (λ (c : Tape). Knows header.start header.length (map slot_bytes x.slots) x.last c) (sym (same_tape (file_when n command (volume_of was.0) was.0) f _ (files.on_tape was.0 was.1).done now)) (knows_filed was.0 was.1)

        pub puts : (y : RecordsView S) (r : Result (Unit {0}) Trouble) → CommitsSlots calls p.version header.start p.slots w y r
            → Puts calls command p.version header.start p.slots (view x.records) y r
        puts y r did = record {
          goes_on = goes_further (file_count command) calls (view x.records) w y tt r files.goes_on did.goes_on;
          on_tape = λ t told.
              let first = files.on_tape t told in
              let f : Tape = file_when n command (volume_of t) t in
              let left = did.after f first.done in
              record {
                stops = record {
                  stops = follows _ _ _ _ _ _ (HasEitherVolume n command t) (IsOldOrNew p.version (changes_made header.start p.slots f) f) first.stops.stops (did.any_moment f first.done) (λ c. either t told c);
                  after = (left.0, left.1, either t told left.0 left.2);
                };
                done = done_by r did t told;
                added = added_by r did t told;
              };
        }
          where
            done_by : (r : Result (Unit {0}) Trouble) → CommitsSlots calls p.version header.start p.slots w y r → (t : Tape) → (view x.records).tape ≡ Some t
                → OnOk r ((u : Tape) × (y.tape ≡ Some u) × IsCommitted p.version (changes_made header.start p.slots (file_when n command (volume_of t) t)) (file_when n command (volume_of t) t) u)
            done_by (Ok tt) did t told = did.done (file_when n command (volume_of t) t) (files.on_tape t told).done
            done_by (Err e) did t told = tt

            added_by : (r : Result (Unit {0}) Trouble) → CommitsSlots calls p.version header.start p.slots w y r → (t : Tape) → (view x.records).tape ≡ Some t
                → OnOk r ((list : List Transfer) → (view x.records).transferred list → (more : List Transfer)
                × y.transferred (list ++ (file_runs n command (volume_of t) ++ more))
                × (writes_among more ≡ commit_writes p.version n (has_open_gate (file_when n command (volume_of t) t)) (changes_made header.start p.slots (file_when n command (volume_of t) t)))
                × AreSingle more)
            added_by (Ok tt) did t told = λ list was.
                let first = files.on_tape t told in
                let f : Tape = file_when n command (volume_of t) t in
                let two = (did.writes f first.done).goes_on (list ++ file_runs n command (volume_of t)) (first.added list was) in (
                  two.0,
                  subst y.transferred (append_assoc list (file_runs n command (volume_of t)) two.0) two.1,
                  two.2 ∙ ap (λ (k : ℕ). commit_writes p.version k (has_open_gate f) (changes_made header.start p.slots f)) files.goes_on.continues.size,
                  two.3,
                )
            added_by (Err e) did t told = tt

      -- ---- the whole

      module _ (y : VolumeView R) where
        few_calls : calls ≤ most_calls command
        few_calls = subst (λ (k : ℕ). calls_among header.start k x.is_open p.numbers ≤ most_calls command) (length-map x.slots slot_bytes) (plan.calls x.is_open)

        carrying_is : {T : Type 0} (a : Result T VolumeFault) → carrying n command x.kept a ≡ carrying n command (Some header) a
        carrying_is a = ap (λ (k : Option HeaderParts). carrying n command k a) kept

        bound : (c : VolumeCommand) → calls ≤ most_calls c → file_count c ≤ beside n (Some header) → (file_count c + calls ≤ carrying {T = Unit {0}} n c (Some header) (Ok tt))
            × ((e : Trouble) → file_count c + calls ≤ carrying {T = Unit {0}} n c (Some header) (Err (Troubled e)))
        bound Dir few fits = (omega (arith, few), λ e. omega (arith, few))
        bound Label few fits = (omega (arith, few), λ e. omega (arith, few))
        bound (Fetch name) few fits = (omega (arith, few), λ e. omega (arith, few))
        bound (Store name kind implementation bytes) few fits =
            let short : length (file_records bytes) ≤ min (beside n (Some header)) (file_length bytes) = omega (arith, records_count bytes, fits) in
            (omega (arith, short, few), λ e. omega (arith, short, few))
        bound (Rename old later) few fits = (omega (arith, few), λ e. omega (arith, few))
        bound (Purge name) few fits = (omega (arith, few), λ e. omega (arith, few))
        bound Adopt few fits = (omega (arith, few), λ e. omega (arith, few))
        bound Upgrade few fits = (omega (arith, few), λ e. omega (arith, few))
        bound (Batch parts) few fits =
            let short : records_stored parts ≤ min (beside n (Some header)) (records_stored parts) = omega (arith, fits) in
            (omega (arith, short, few), λ e. omega (arith, short, few))
        bound (Format label slots) few fits = (omega (arith, few), λ e. omega (arith, few))

        few_is : {T : Type 0} (t : Tape) (told : (view x.records).tape ≡ Some t) (a : Result T VolumeFault) → file_count command + calls ≤ carrying_on n command t (made t told) a
            → (view x.records).calls_left ≤ (view y.records).calls_left + (file_count command + calls)
            → (view x.records).calls_left ≤ (view y.records).calls_left + carrying_on n command t (changes_filed n command (volume_of t) t) a
        few_is t told a few left =
            subst (λ (cs : Changes). (view x.records).calls_left ≤ (view y.records).calls_left + carrying_on n command t cs a) (sym (changes_is t told)) (omega (arith, left, few))

        -- there are calls to make
        some_calls : 0 < calls
        some_calls = omega arith

        some_on : (t : Tape) (told : (view x.records).tape ≡ Some t) → changes_filed n command (volume_of t) t ≡ [] → ⊥
        some_on t told none = omega (arith, some_made t told, ap (λ (cs : Changes). length cs) (sym (changes_is t told) ∙ none))

        -- and no file that is not ours holds the gate record
        not_held : (t : Tape) (told : (view x.records).tape ≡ Some t) → is_gate_held t ≡ true → ⊥
        not_held t told on = ⊎_elim
            (λ refused. let no : Some refused.0 ≡ None = sym refused.1 ∙ free t told in cc)
            (λ idle. some_on t told (ap (λ (v : Option Volume). changes_filed n command v t) (volume_is t told) ∙ idle.1))
            (rests_held n t command (tape t told).records on)

        -- the store failed
        pub carry_fails : (e : Trouble) → Puts {T = Unit {0}} calls command p.version header.start p.slots (view x.records) (view y.records) (Err e) → y.kept ≡ None
            → CarriesOut {T = Unit {0}} command view x y (Err (Troubled e))
        carry_fails e put none =
            let goes = goes_within (file_count command + calls) (carrying {T = Unit {0}} n command x.kept (Err (Troubled e))) _ _ _ (omega (arith, (bound command few_calls plan.fits).1 e, carrying_is {T = Unit {0}} (Err (Troubled e)))) put.goes_on in
            record {
              goes_on = goes;
              idle = λ idle. absurd (omega (arith, idle, some_calls, (bound command few_calls plan.fits).1 e, carrying_is {T = Unit {0}} (Err (Troubled e))));
              idle_on = λ t told files changes. absurd (some_on t told changes);
              held = λ t told on. absurd (not_held t told on);
              kept = none;
              on_tape = λ t told. record { few = few_is t told (Err (Troubled e)) ((few_of t told command (commits_here t told) plan.fits).1 e) put.goes_on.continues.left; written = λ u now. tt; answers = λ u now. tt; stops = (put.on_tape t told).stops; added = tt };
            }

        module _ (put : Puts {T = Unit {0}} calls command p.version header.start p.slots (view x.records) (view y.records) (Ok tt)) (still : y.kept ≡ x.kept) where
          pub carries : CarriesOut {T = Unit {0}} command view x y (Ok tt)
          carries =
              let goes = goes_within (file_count command + calls) (carrying {T = Unit {0}} n command x.kept (Ok tt)) _ _ _ (omega (arith, (bound command few_calls plan.fits).0, carrying_is {T = Unit {0}} (Ok tt))) put.goes_on in
              record {
                goes_on = goes;
                idle = λ idle. absurd (omega (arith, idle, some_calls, (bound command few_calls plan.fits).0, carrying_is {T = Unit {0}} (Ok tt)));
                idle_on = λ t told files changes. absurd (some_on t told changes);
                held = λ t told on. absurd (not_held t told on);
                kept = still;
                on_tape = λ t told.
                    let did = put.on_tape t told in
                    let f : Tape = file_when n command (volume_of t) t in
                    record {
                      few = few_is t told (Ok tt) (few_of t told command (commits_here t told) plan.fits).0 put.goes_on.continues.left;
                      written = λ u now.
                          let same = same_tape did.done.0 u _ did.done.1 now in
                          subst (λ (w : Version). IsChanged w (changes_filed n command (volume_of t) t) f u) (sym (version_is t told))
                          (subst (λ (cs : Changes). IsChanged p.version cs f u) (sym (changes_is t told))
                          (changed_some p.version (made t told) f u (some_made t told) (subst (IsCommitted p.version (made t told) f) (sym same) did.done.2)));
                      answers = λ u now.
                          let same = same_tape did.done.0 u _ did.done.1 now in
                          applied t told (free t told) ∙ ap (λ (w : Option Volume). (None, w)) (sym (now_is t told did.done.0 did.done.2) ∙ ap volume_of (sym same));
                      stops = did.stops;
                      added = record {
                        goes_on = λ list was.
                            let more = did.added list was in (
                              [],
                              file_runs n command (volume_of t) ++ more.0,
                              more.1,
                              tt,
                              λ on. refl,
                              record {
                                more = more.0;
                                are = refl;
                                writes = more.2 ∙ writes_some p.version n (has_open_gate f) (made t told) (some_made t told) ∙ sym ((λ i. writes_if_any (version_is t told i) n (has_open_gate f) (changes_is t told i)));
                                single = more.3;
                              },
                            );
                      };
                    };
              }

          -- and the slots in memory are those of the tape
          module _ (bytes_are : map slot_bytes y.slots ≡ p.later) (from : map slot_from (map slot_bytes x.slots) ≡ x.slots → map slot_from p.later ≡ y.slots) where
            next : IsVolume n (volume_after n command some)
            next = next_volume n p.version command some some_is.volume plan.formed commits_some (plan.free some some_is)

            next_is : IsVolume n (record { header = legal.bytes; slots = map slot_bytes y.slots; files = (volume_after n command some).files })
            next_is =
                let w : Volume = volume_after n command some in
                subst (λ (xs : List (List ℕ)). IsVolume n (record { header = legal.bytes; slots = xs; files = w.files })) (plan.after some some_is ∙ sym bytes_are)
                (subst (λ (h : List ℕ). IsVolume n (record { header = h; slots = w.slots; files = w.files })) (header_stays n p.version command some commits_some) next)

            legal_now : IsLegalDirectory n header (map slot_bytes y.slots)
            legal_now = record {
              bytes = legal.bytes;
              told = legal.told;
              legal = legal_from n legal.bytes (map slot_bytes y.slots) next_is.legal;
              whole = legal.whole;
              shape = record { few = omega (arith, next_is.room, ap (λ (h : HeaderParts). h.length) legal.told); entries = next_is.entries; kinds = next_is.kinds };
            }

            directory_now : (u : Tape) → (view y.records).tape ≡ Some u → IsDirectoryOf u header y.slots
            directory_now u now =
                let was = was_told _ _ put.goes_on.continues.told u now in
                let t : Tape = was.0 in
                let done = (put.on_tape t was.1).done in
                let same = same_tape done.0 u _ done.1 now in
                let before = on t was.1 in
                let settles : IsSettled u = subst (λ (w : Tape). IsSettled w) (sym same) (committed_settled p.version (made t was.1) (filed t was.1) done.0 done.2) in
                let w : Volume = volume_after n command (volume_on t) in
                let told : volume_in u ≡ Some w = ap volume_in (sym settles) ∙ ap volume_of same ∙ now_is t was.1 done.0 done.2 in
                let tells = volume_tells u w told in
                let bytes : map slot_bytes y.slots ≡ slots_of u = bytes_are ∙ sym (plan.after (volume_on t) (with_is t was.1)) ∙ tells.2 in
                let back : map slot_from (map slot_bytes x.slots) ≡ x.slots = ap (map slot_from) before.directory.bytes ∙ sym before.directory.slots in
                record {
                  settled = settles;
                  directory = record {
                    legal = tells.0;
                    header = before.directory.header ∙ ap header_of (sym (header_stays n p.version command (volume_on t) (commits_here t was.1)) ∙ tells.1);
                    slots = sym (from back) ∙ ap (map slot_from) (sym bytes_are ∙ bytes);
                    bytes = bytes;
                  };
                }

            shut_now : (u : Tape) → (view y.records).tape ≡ Some u → has_open_gate u ≡ false
            shut_now u now =
                let was = was_told _ _ put.goes_on.continues.told u now in
                let done = (put.on_tape was.0 was.1).done in
                let committed : IsCommitted p.version (made was.0 was.1) (filed was.0 was.1) u = subst (IsCommitted p.version (made was.0 was.1) (filed was.0 was.1)) (sym (same_tape done.0 u _ done.1 now)) done.2 in
                gate_at (length (filed was.0 was.1)) u committed.records ∙ ap is_open committed.gate ∙ zeros_are_shut

            pub carries_open : (count : ℕ) → length y.slots ≡ count → y.room ≡ x.room → y.is_open ≡ false
                → ((u : Tape) → (view y.records).tape ≡ Some u → EndsWith header.start header.length count y.last u) → IsOpen view y
            carries_open count long room shut ends =
                let goes = put.goes_on.continues in
                record {
                  valid = goes.valid;
                  size = omega (arith, opened.size, goes.size);
                  small = omega (arith, opened.small, goes.size);
                  room = room ∙ opened.room ∙ ap (λ (k : ℕ). 8 * (k - 5)) (sym goes.size);
                  legal = subst (λ (o : Option HeaderParts). IfSome o (λ h. IsLegalDirectory (view y.records).record_count h (map slot_bytes y.slots))) (sym (still ∙ kept))
                      (subst (λ (k : ℕ). IsLegalDirectory k header (map slot_bytes y.slots)) (sym goes.size) legal_now);
                  known = λ u now. subst (λ (o : Option HeaderParts). IfSome o (λ h. IsDirectoryOf u h y.slots)) (sym (still ∙ kept)) (directory_now u now);
                  gate = λ u now. subst (λ (o : Option HeaderParts). IfSome o (λ h. y.is_open ≡ has_open_gate u)) (sym (still ∙ kept)) (shut ∙ sym (shut_now u now));
                  end = λ u now. subst (λ (o : Option HeaderParts). IfSome o (λ h. EndsWith h.start h.length (length y.slots) y.last u)) (sym (still ∙ kept))
                      (subst (λ (k : ℕ). EndsWith header.start header.length k y.last u) (sym long) (ends u now));
                }

-- ---- a change by itself

module _ {R S : Type 0} (view : R → RecordsView S) (x : VolumeView R) (header : HeaderParts) (opened : IsOpen view x) (kept : x.kept ≡ Some header) (store : IsStore (view x.records)) (command : VolumeCommand)
    (change : Change) (plan : MakesChange (view x.records).record_count command header (map slot_bytes x.slots) change) (y : VolumeView R)
    (put : Puts {T = Unit {0}} (calls_of header.start (length x.slots) x.is_open change) command change.version header.start (change_writes header.start change) (view x.records) (view y.records) (Ok tt)) where
  -- the slots in memory are those of the tape then
  pub change_opens : y.kept ≡ x.kept → y.slots ≡ slots_with change x.slots → IsToldBack change → y.room ≡ x.room → y.is_open ≡ false
      → ((u : Tape) → (view y.records).tape ≡ Some u → EndsWith header.start header.length (count_with (length x.slots) change) y.last u) → IsOpen view y
  change_opens still slots_are told room shut ends =
      carries_open view x header opened kept store command (of_change view x header opened kept store command change plan) y put still
      (ap (map slot_bytes) slots_are ∙ changed_bytes change x.slots) (λ back. told_back change x.slots told back ∙ sym slots_are)
      (count_with (length x.slots) change) (ap length slots_are ∙ count_is slot_of change x.slots (omega (arith, plan.fits.place, length-map x.slots slot_bytes))) room shut ends

-- its file

module _ {R S : Type 0} (view : R → RecordsView S) (x : VolumeView R) (header : HeaderParts) (opened : IsOpen view x) (kept : x.kept ≡ Some header) (store : IsStore (view x.records)) (command : VolumeCommand)
    (change : Change) (plan : MakesChange (view x.records).record_count command header (map slot_bytes x.slots) change) (calls : ℕ) (ready : IsReady calls (view x.records)) where
  abbrev planned_change : IsPlanned (view x.records).record_count command header (map slot_bytes x.slots) (one_change header (map slot_bytes x.slots) command change)
  planned_change = of_change view x header opened kept store command change plan

  pub file_none : HasFile command None → PutsFile {T = Unit {0}} command (view x.records) (view x.records) (Ok tt)
  file_none has = none_put view x header opened kept store command planned_change calls ready (no_file command change has)

  pub file_some : (w : RecordsView S) (r : Result (Unit {0}) Trouble) (file : List ℕ) → HasFile command (Some file) → StoredRun change.entry.start (cut change.entry.length file) (view x.records) w r
      → PutsFile command (view x.records) w r
  file_some w r file has run = by command refl has plan.file
    where
      by : (c : VolumeCommand) → command ≡ c → HasFile c (Some file) → PlacesFileOf (view x.records).record_count c header (map slot_bytes x.slots) change → PutsFile command (view x.records) w r
      by Dir is has placed = cc
      by Label is has placed = cc
      by (Fetch name) is has placed = cc
      by (Store name kind implementation bytes) is has placed =
          let same : file ≡ bytes = cc in
          one_put view x header opened kept store command planned_change calls ready (record { slot = change.slot; start = change.entry.start; bytes = bytes }) (ap (λ (c : VolumeCommand). file_of_change c change) is) w r
          (subst (λ (k : ℕ). StoredRun change.entry.start (cut k bytes) (view x.records) w r) placed.count
          (subst (λ (b : List ℕ). StoredRun change.entry.start (cut change.entry.length b) (view x.records) w r) same run))
      by (Rename old later) is has placed = cc
      by (Purge name) is has placed = cc
      by Adopt is has placed = cc
      by Upgrade is has placed = cc
      by (Batch parts) is has placed = absurd placed
      by (Format label slots) is has placed = cc
