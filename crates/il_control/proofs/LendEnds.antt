-- A lend in which a second controller took control: the host took it back, or the rounds broke off.
use Rattle.il_ring.specs.declared.flight.Flight.{Flight}
use Rattle.il_control.proofs.LentReports.{tells_left}
use Rattle.il_control.proofs.LentReached.{met_since, risen_up}
use Rattle.il_control.proofs.LentHost.{ifc_broke, ifc_whole, still_of}
use Rattle.il_control.proofs.LendDrives.{told_after, told_no_more}
use Rattle.std.proofs.Common.{List, None, Option, Some, [], ap, append-nil, append_assoc, ap₂, arith, false, inl, inr, length, length-append, refl, subst, suc, sym, true, zero, ℕ, ⊎_elim, ◌*◌, ◌++◌, ◌+◌, ◌<◌, ◌==◌, ◌||◌, ◌∙◌, ◌∷◌, ◌≡◌, ◌≤◌, nat_le}
use Rattle.std.specs.Prelude.{if◌then◌else◌}
use Rattle.std.specs.List.{list_all}
use Rattle.std.proofs.lemmas.Bool.{and_from, and_parts, eqb-true, le-leb, ne_eqb}
use Rattle.std.proofs.lemmas.List.{append_cancel_left}
use Rattle.std.proofs.lemmas.List.Folds.{list_all-append}
use Rattle.il_frames.specs.declared.entry.Entry.{Entry}
use Rattle.il_frames.specs.declared.entry.Outcome.{Outcome}
use Rattle.il_frames.specs.declared.entry.Outcome.TheVariants as outcome
use Rattle.il_frames.specs.Messages.{message_of}
use Rattle.il_frames.specs.NamedFrames.{entry, ifc, rfc}
use Rattle.il_device.specs.declared.roles.Roles.{Roles}
use Rattle.il_drive.specs.State.{device_of, status_of}
use Rattle.il_ports.specs.Media.{MediumView}
use Rattle.loop_model.specs.Exchanges.{FrameLost, commanded, cut_at, is_address, returned}
use Rattle.loop_model.specs.Leading.{controller_after, has_no_lend, roles_led}
use Rattle.loop_model.specs.Roles.{roles_after, roles_along}
use Rattle.loop_model.proofs.LeadingLaws.{roles_led-no_lend}
use Rattle.il_ring.specs.Adds.{Adds}
use Rattle.il_ring.specs.Guests.{IsUnderHost}
use Rattle.il_ring.specs.Polls.{is_no_poll}
use Rattle.il_ring.specs.ControlledAdds.{ControlledSince, standing}
use Rattle.il_ring.specs.Lending.{about_to_send, entry_of_kept, taken_back, taken_back_if}
use Rattle.il_ring.specs.Lends.{AtHost, handed_entries, lend_entries}
use Rattle.il_ring.specs.Rings.{RingView, devices_of, drive_party}
use Rattle.il_ring.specs.Turned.{is_on}
use Rattle.il_ring.specs.Statuses.{answers_always, asked_all, reported_by, ReportsStatus}
use Rattle.il_ring.proofs.ControlledRings.{controlled_ring}
use Rattle.il_ring.proofs.ControlledSince.{since_adds, since_append, since_back}
use Rattle.il_control.specs.Calls.{Broke, IsIdle, Whole}
use Rattle.il_control.specs.Lent.{DriveLeft, DriveTold, KeptSince, LendBroken, LendMade, LentBroke, LentSo, asked_on, base_of, last_of, controller_at}
use Rattle.il_control.proofs.Calls.{cut_within}
use Rattle.il_control.proofs.LendFronts.{cut_length, cut_on, kept_adds, kept_then, only_lost}
use Rattle.il_control.proofs.LendSums.{lend_broken, lend_made, taken_not_back}
use Rattle.il_control.proofs.LentAnswers.{answers-append, answers-front, are_mute-answers}
use Rattle.il_control.proofs.LentEnds.{LendsSo, addresses_are, lent_cut, lent_cut-back, lent_lost, lent_lost-back, lent_lost-control, lent_whole, stands_so}
use Rattle.il_control.proofs.LentDriveAnswers.{standing_told}
use Rattle.il_control.proofs.LentStatuses.{are_mute, handed-asks, ifc-cut, ifc-mute, is_mute}
use Rattle.il_control.proofs.LentSums.{are_theirs, control_stays, ends_theirs, is_theirs}

-- ---- an IFC of the host, whoever controls

back_roles : (k : ℕ) → (0 == k) ≡ false → (o : Outcome) (rest : List Entry) → has_no_lend rest ≡ true → (rs : List Roles) → roles_led k rs (entry 0 ifc o ∷ rest) ≡ roles_after rs (entry 0 ifc o ∷ rest)
back_roles k other o rest none rs =
    let own : ((0 == k) || true) ≡ true = ap (λ b. b || true) other in
    ap (λ own. roles_led 0 (if own then roles_along 0 o 1 (message_of ifc) rs else rs) rest) own
    ∙ roles_led-no_lend (roles_along 0 o 1 (message_of ifc) rs) rest none

pub where_short : (j : ℕ) (o : Option Flight) → length (entry_of_kept j o) ≤ 1
where_short j None = omega arith
where_short j (Some f) = omega arith

module _ {M : Type 0} (view : M → MediumView) (a limit : ℕ) (q r : RingView M) (idle : IsIdle q) (low : a ≤ 30) (so : LentSo view a q r limit) where
  abbrev k : ℕ
  k = length (devices_of q)

  abbrev own_last : ℕ
  own_last = last_of q.guest

  some : 1 ≤ k
  some =
      let all = length-append q.before (device_of q.drive.state ∷ q.after) in
      omega (arith, all)

  no_host : (k == 0) ≡ false
  no_host = ne_eqb k 0 (λ e. omega (arith, e, some))

  host_other : (0 == k) ≡ false
  host_other = ne_eqb 0 k (λ e. omega (arith, e, some))

  address : is_address a ≡ true
  address = le-leb a 30 low

  lows : list_all (λ a. is_address a) (asked_on q) ≡ true
  lows = addresses_are (Some k) own_last so.few_asked

  pub as_taken : about_to_send r ≡ taken_back r
  as_taken = ap (λ lead. taken_back_if lead r) so.polls.controlled.leads

  -- what is on the ring is none of the host's
  stays : controller_after k (standing k r.books) ≡ k
  stays =
      let ends = stands_so view k own_last (Some k) (base_of a q) r limit so.polls in
      let all = ends_theirs k no_host (asked_on q) so.polls.entries (standing k r.books) AtHost ends in
      control_stays k (standing k r.books) (and_parts (are_theirs so.polls.entries) (are_theirs (standing k r.books)) (sym (list_all-append is_theirs so.polls.entries (standing k r.books)) ∙ all)).1

  since_taken : ControlledSince 0 k q (taken_back r) (so.added ++ standing k r.books)
  since_taken =
      since_append 0 k k q r (taken_back r) so.added (standing k r.books) so.since
      (subst (λ j. controller_after j (standing j r.books) ≡ j → ControlledSince j j r (taken_back r) (standing j r.books)) so.polls.many (since_back r) stays)

  module _ (s : RingView M) (last : List Entry) (adds : Adds view (taken_back r) None last None s) (lent : s.books.lent ≡ None) (kept : s.books.kept ≡ None) (back : controller_after k last ≡ 0) (roles : (rs : List Roles) → roles_led k rs last ≡ roles_after rs last) where
    all_since : ControlledSince 0 0 q s ((so.added ++ standing k r.books) ++ last)
    all_since = since_append 0 k 0 q (taken_back r) s (so.added ++ standing k r.books) last since_taken (since_adds view k 0 (taken_back r) s last adds refl refl lent kept back roles)

    -- these are the entries of the lend
    log_now : q.books.log ++ ((so.added ++ standing k r.books) ++ last) ≡ (r.books.log ++ standing k r.books) ++ last
    log_now =
        sym (append_assoc q.books.log (so.added ++ standing k r.books) last)
        ∙ ap (λ log. log ++ last) (sym (append_assoc q.books.log so.added (standing k r.books)) ∙ ap (λ log. log ++ standing k r.books) (sym so.since.log))

    since_as : (before : List Entry) → (r.books.log ++ standing k r.books) ++ last ≡ q.books.log ++ before → ControlledSince 0 0 q s before
    since_as before is = subst (λ es. ControlledSince 0 0 q s es) (append_cancel_left q.books.log ((so.added ++ standing k r.books) ++ last) before (log_now ∙ is)) all_since

  -- taking control back changes the log alone
  taken_kept : KeptSince q (taken_back r)
  taken_kept =
      let kept = so.kept in
      record { plan = kept.plan; begun = kept.begun; room = kept.room; before = kept.before; last = kept.last; unheard = kept.unheard; places = kept.places }

  -- how many entries that is
  long_so : (last entries : List Entry) → length last ≤ 2 → (r.books.log ++ standing k r.books) ++ last ≡ q.books.log ++ entries → length entries ≤ 2 * limit + 9
  long_so last entries few is =
      let all = ap length is ∙ length-append q.books.log entries in
      let left = length-append (r.books.log ++ standing k r.books) last in
      let mid = length-append r.books.log (standing k r.books) in
      let stood = length-append (entry_of_kept k r.books.kept) (entry_of_kept 0 r.books.lent) in
      let kept = where_short k r.books.kept in
      let lent = where_short 0 r.books.lent in
      let log = ap length so.polls.log ∙ length-append (base_of a q) so.polls.entries in
      let front = length-append q.books.log (handed_entries a k) in
      let short = so.polls.short in
      omega (arith, all, left, mid, stood, kept, lent, log, front, short, few)

  -- the rounds of the log are those in which the drive answered
  entries_for : (last entries : List Entry) → (r.books.log ++ standing k r.books) ++ last ≡ q.books.log ++ entries → entries ≡ handed_entries a k ++ (so.polls.entries ++ (standing k r.books ++ last))
  entries_for last entries is = append_cancel_left q.books.log entries (handed_entries a k ++ (so.polls.entries ++ (standing k r.books ++ last)))
      (sym is ∙ ap (λ log. (log ++ standing k r.books) ++ last) so.polls.log
      ∙ append_assoc (base_of a q ++ so.polls.entries) (standing k r.books) last
      ∙ append_assoc (base_of a q) so.polls.entries (standing k r.books ++ last)
      ∙ append_assoc q.books.log (handed_entries a k) (so.polls.entries ++ (standing k r.books ++ last)))

  -- the drive answers wherever it is asked in them
  answered_for : (last entries : List Entry) → are_mute k last ≡ true → (r.books.log ++ standing k r.books) ++ last ≡ q.books.log ++ entries → answers_always k (drive_party q) None entries ≡ true
  answered_for last entries mute is =
      let same : so.answers.entries ≡ so.polls.entries = append_cancel_left (base_of a q) so.answers.entries so.polls.entries (sym so.answers.log ∙ so.polls.log) in
      let party : drive_party r ≡ drive_party q = ap (λ n. n + 1) so.kept.before in
      let rounds : answers_always k (drive_party q) None so.polls.entries ≡ true =
      sym (ap₂ (λ j p. answers_always j p None so.answers.entries) so.polls.many party ∙ ap (answers_always k (drive_party q) None) same) ∙ so.answers.answered in
      let after = standing k r.books ++ last in
      let still : are_mute k after ≡ true = list_all-append (is_mute k) (standing k r.books) last ∙ and_from (are_mute k (standing k r.books)) (are_mute k last) (standing_told view k own_last (Some k) (base_of a q) r limit so.polls) mute in
      ap (answers_always k (drive_party q) None) (entries_for last entries is)
      ∙ answers-front k (drive_party q) (handed_entries a k) (so.polls.entries ++ after) (handed-asks k a host_other)
      (answers-append k (drive_party q) None so.polls.entries after rounds (are_mute-answers k (drive_party q) (asked_all k None so.polls.entries) after still))

  -- ---- the IFC and its RFC came back

  module _ (s : RingView M) (whole : Whole view (about_to_send r) (commanded 0 ifc) s) where
    abbrev its_whole : Whole view (taken_back r) (commanded 0 ifc) s
    its_whole = subst (λ t. Whole view t (commanded 0 ifc) s) as_taken whole

    abbrev made_so : LendsSo k (asked_on q) limit a true q.books.log ((r.books.log ++ standing k r.books) ++ commanded 0 ifc)
    made_so = lent_whole view k own_last (Some k) (base_of a q) r limit so.polls a q.books.log address lows refl

    made_since : ControlledSince 0 0 q s (lend_entries k (asked_on q) made_so.lend)
    made_since =
        since_as s (commanded 0 ifc) its_whole.adds its_whole.ring.lent its_whole.ring.kept refl (back_roles k host_other (outcome.Back ifc) (returned 0 rfc ∷ []) refl)
        (lend_entries k (asked_on q) made_so.lend) made_so.log_is

    made_kept : KeptSince q s
    made_kept = kept_then q (taken_back r) s taken_kept (kept_adds view None (taken_back r) s (commanded 0 ifc) its_whole.adds (its_whole.unheard refl) refl)

    made_entries : lend_entries k (asked_on q) made_so.lend ≡ handed_entries a k ++ (so.polls.entries ++ (standing k r.books ++ commanded 0 ifc))
    made_entries = entries_for (commanded 0 ifc) (lend_entries k (asked_on q) made_so.lend) made_so.log_is

    made_drive : DriveTold q s (lend_entries k (asked_on q) made_so.lend)
    made_drive =
        let stays = ifc_whole view (taken_back r) s (returned 0 rfc ∷ []) refl refl its_whole in
        let same : so.drive.so.entries ≡ so.polls.entries = append_cancel_left (base_of a q) so.drive.so.entries so.polls.entries (sym so.drive.so.log ∙ so.polls.log) in
        let party : drive_party r ≡ drive_party q = let e = so.kept.before in omega (arith, e) in
        let some_party : 1 ≤ drive_party q = omega arith in
        let bytes : reported_by (length (devices_of r)) (drive_party r) so.drive.so.entries ≡ reported_by k (drive_party q) (lend_entries k (asked_on q) made_so.lend) =
        ap₂ (λ j p. reported_by j p so.drive.so.entries) so.polls.many party ∙ ap (reported_by k (drive_party q)) same
        ∙ sym (ap (reported_by k (drive_party q)) made_entries ∙ told_after k (drive_party q) (handed_entries a k) (so.polls.entries ++ (standing k r.books ++ commanded 0 ifc)) refl some_party
        ∙ told_no_more k (drive_party q) so.polls.entries (standing k r.books ++ commanded 0 ifc) (list_all-append (is_mute k) (standing k r.books) (commanded 0 ifc) ∙ and_from (are_mute k (standing k r.books)) (are_mute k (commanded 0 ifc)) (standing_told view k own_last (Some k) (base_of a q) r limit so.polls) (ifc-mute k host_other))) in
        record {
          medium = stays.medium ∙ so.drive.so.medium;
          told = subst (λ now. ReportsStatus (status_of q.drive.state) (reported_by k (drive_party q) (lend_entries k (asked_on q) made_so.lend)) now) (sym stays.status)
              (subst (λ bytes. ReportsStatus (status_of q.drive.state) bytes (status_of r.drive.state)) bytes so.drive.so.told);
        }

    made_short : length (lend_entries k (asked_on q) made_so.lend) ≤ 2 * limit + 9
    made_short = long_so (commanded 0 ifc) (lend_entries k (asked_on q) made_so.lend) (omega arith) made_so.log_is

    pub lent_made : a ≡ k → true ≡ controller_at a q → IsUnderHost s.guest → LendMade a limit true q s
    lent_made at stands host =
        lend_made a limit 0 true q s idle made_so.lend made_so.is made_so.own made_so.whole_is made_so.address (λ taken. at) made_since made_kept made_short (λ taken. sym stands) (λ back. absurd (taken_not_back made_so.lend made_so.taken back)) (λ not_taken. let clash = sym not_taken ∙ made_so.taken in cc)
        (answered_for (commanded 0 ifc) (lend_entries k (asked_on q) made_so.lend) (ifc-mute k host_other) made_so.log_is) its_whole.ring
        refl true made_so.taken stands made_drive (λ not_taken. cc) host its_whole.held

  -- ---- one of the two was lost

  module _ (s : RingView M) (broke : Broke view (about_to_send r) (commanded 0 ifc) s) where
    abbrev its_broke : Broke view (taken_back r) (commanded 0 ifc) s
    its_broke = subst (λ t. Broke view t (commanded 0 ifc) s) as_taken broke

    abbrev n : ℕ
    n = its_broke.standing

    less : n < 2
    less = cut_within (commanded 0 ifc) n its_broke.break its_broke.legal

    abbrev lost : (p : ℕ) × (its_broke.break ≡ FrameLost p)
    lost = only_lost (commanded 0 ifc) n its_broke.break refl its_broke.legal

    abbrev ended : List Entry
    ended = cut_at (commanded 0 ifc) n (FrameLost lost.0)

    adds : Adds view (taken_back r) None ended None s
    adds = subst (λ to. Adds view (taken_back r) None ended to s) (its_broke.told refl) (subst (λ b. Adds view (taken_back r) None (cut_at (commanded 0 ifc) n b) its_broke.held_at_end s) lost.1 its_broke.adds)

    lost_on : nat_le lost.0 k ≡ true
    lost_on = cut_on (commanded 0 ifc) n lost.0 k less (subst (λ j. list_all (is_on j) ended ≡ true) so.polls.many adds.on)

    abbrev lost_so : LendsSo k (asked_on q) limit a false q.books.log ((r.books.log ++ standing k r.books) ++ ended)
    lost_so = lent_lost view k own_last (Some k) (base_of a q) r limit so.polls a q.books.log address lows refl n lost.0 less lost_on

    ended_back : (m p : ℕ) → m < 2 → (controller_after k (cut_at (commanded 0 ifc) m (FrameLost p)) ≡ 0) × ((rs : List Roles) → roles_led k rs (cut_at (commanded 0 ifc) m (FrameLost p)) ≡ roles_after rs (cut_at (commanded 0 ifc) m (FrameLost p)))
        × (list_all is_no_poll (cut_at (commanded 0 ifc) m (FrameLost p)) ≡ true)
    ended_back zero p few = (refl, back_roles k host_other (outcome.Lost p) [] refl, refl)
    ended_back (suc zero) p few = (refl, back_roles k host_other (outcome.Back ifc) (entry 0 rfc (outcome.Lost p) ∷ []) refl, refl)
    ended_back (suc (suc m)) p few = let no : ⊥ = omega (arith, few) in absurd no

    lost_since : ControlledSince 0 0 q s (lend_entries k (asked_on q) lost_so.lend)
    lost_since =
        let back = ended_back n lost.0 less in
        since_as s ended adds its_broke.ring.lent its_broke.ring.kept back.0 back.1 (lend_entries k (asked_on q) lost_so.lend) lost_so.log_is

    lost_kept : KeptSince q s
    lost_kept = kept_then q (taken_back r) s taken_kept (kept_adds view None (taken_back r) s ended adds (its_broke.unheard refl) (ended_back n lost.0 less).2)

    lost_drive : DriveLeft q.drive s.drive
    lost_drive =
        let still = still_of view r.drive s.drive (ifc_broke view (taken_back r) s (returned 0 rfc ∷ []) refl refl its_broke) in
        let left = tells_left (status_of q.drive.state) (reported_by (length (devices_of r)) (drive_party r) so.drive.so.entries) (status_of r.drive.state) so.drive.so.told in
        record {
          medium = still.medium ∙ so.drive.so.medium;
          status = ⊎_elim (λ same. inl (still.status ∙ same)) (λ none. inr (still.status ∙ none)) left;
        }

    pub lent_not : a ≡ k → true ≡ controller_at a q → (length s.books.log ≡ length (about_to_send r).books.log + 2 → IsUnderHost s.guest) → LendBroken a limit q s
    lent_not at stands ready =
        lend_broken a limit 0 false q s idle lost_so.lend lost_so.is lost_so.own lost_so.whole_is lost_so.address (λ taken. at) lost_since lost_kept (long_so ended (lend_entries k (asked_on q) lost_so.lend) (cut_length (commanded 0 ifc) n lost.0) lost_so.log_is)
        (λ taken. sym stands) (λ back. absurd (taken_not_back lost_so.lend lost_so.taken back)) (λ not_taken. let clash = sym not_taken ∙ lost_so.taken in cc)
        (answered_for ended (lend_entries k (asked_on q) lost_so.lend) (ifc-cut k n lost.0 host_other) lost_so.log_is) its_broke.ring refl lost_drive its_broke.held
        (met_since q (taken_back r) s so.kept.plan (risen_up so.since.links q.books.crossings r.books.crossings idle.free.ring.crossings so.since.crossings) its_broke.met_some)
        (λ keeps. let clash = sym keeps ∙ lent_lost-control view k own_last (Some k) (base_of a q) r limit so.polls a q.books.log address lows refl n lost.0 less lost_on in cc)
        (λ back.
        let one : n ≡ 1 = eqb-true n 1 (sym (lent_lost-back view k own_last (Some k) (base_of a q) r limit so.polls a q.books.log address lows refl n lost.0 less lost_on) ∙ back) in
        let two : length ended ≡ 2 = ap (λ m. length (cut_at (commanded 0 ifc) m (FrameLost lost.0))) one in
        let log = ap length adds.log ∙ length-append (taken_back r).books.log ended in
        let same = ap (λ (t : RingView M). length t.books.log) as_taken in
        ready (omega (arith, two, log, same)))

-- ---- the rounds broke off

module _ {M : Type 0} (view : M → MediumView) (a limit : ℕ) (q s : RingView M) (idle : IsIdle q) (low : a ≤ 30) (off : LentBroke view a q limit s) where
  abbrev cut_so : LendsSo (length (devices_of q)) (asked_on q) limit a false q.books.log s.books.log
  cut_so = lent_cut view (length (devices_of q)) (last_of q.guest) (Some (length (devices_of q))) (base_of a q) s off.arrived limit a q.books.log off.off off.few (le-leb a 30 low) (addresses_are (Some (length (devices_of q))) (last_of q.guest) off.few_asked) refl

  cut_since : ControlledSince 0 (length (devices_of q)) q s (lend_entries (length (devices_of q)) (asked_on q) cut_so.lend)
  cut_since = subst (λ es. ControlledSince 0 (length (devices_of q)) q s es)
      (append_cancel_left q.books.log off.added (lend_entries (length (devices_of q)) (asked_on q) cut_so.lend) (sym off.since.log ∙ cut_so.log_is)) off.since

  cut_short : length (lend_entries (length (devices_of q)) (asked_on q) cut_so.lend) ≤ 2 * limit + 9
  cut_short =
      let log = ap length (sym cut_so.log_is ∙ off.off.log) in
      let whole = length-append q.books.log (lend_entries (length (devices_of q)) (asked_on q) cut_so.lend) in
      let front = length-append q.books.log (handed_entries a (length (devices_of q))) in
      let all = length-append (base_of a q) (off.off.entries ++ off.off.tail) in
      let short = off.off.short in
      let few = off.few in
      omega (arith, log, whole, front, all, short, few)

  cut_some : 1 ≤ length (devices_of q)
  cut_some = let all = length-append q.before (device_of q.drive.state ∷ q.after) in omega (arith, all)

  cut_other : (0 == length (devices_of q)) ≡ false
  cut_other = ne_eqb 0 (length (devices_of q)) (λ e. omega (arith, e, cut_some))

  cut_entries : lend_entries (length (devices_of q)) (asked_on q) cut_so.lend ≡ handed_entries a (length (devices_of q)) ++ (off.answers.entries ++ [])
  cut_entries = append_cancel_left q.books.log (lend_entries (length (devices_of q)) (asked_on q) cut_so.lend) (handed_entries a (length (devices_of q)) ++ (off.answers.entries ++ []))
      (sym cut_so.log_is ∙ off.answers.log ∙ append_assoc q.books.log (handed_entries a (length (devices_of q))) off.answers.entries
      ∙ ap (λ es. q.books.log ++ (handed_entries a (length (devices_of q)) ++ es)) (sym (append-nil off.answers.entries)))

  cut_answered : answers_always (length (devices_of q)) (drive_party q) None (lend_entries (length (devices_of q)) (asked_on q) cut_so.lend) ≡ true
  cut_answered =
      let k = length (devices_of q) in
      let rounds : answers_always k (drive_party q) None off.answers.entries ≡ true =
      sym (ap₂ (λ j p. answers_always j p None off.answers.entries) cut_since.size (ap (λ n. n + 1) off.kept.before)) ∙ off.answers.answered in
      ap (answers_always k (drive_party q) None) cut_entries
      ∙ answers-front k (drive_party q) (handed_entries a k) (off.answers.entries ++ []) (handed-asks k a cut_other) (answers-append k (drive_party q) None off.answers.entries [] rounds refl)

  pub cut_broken : a ≡ length (devices_of q) → true ≡ controller_at a q → LendBroken a limit q s
  cut_broken at stands =
      lend_broken a limit (length (devices_of q)) false q s idle cut_so.lend cut_so.is cut_so.own cut_so.whole_is cut_so.address (λ taken. at) cut_since off.kept cut_short (λ taken. sym stands) (λ back. absurd (taken_not_back cut_so.lend cut_so.taken back)) (λ not_taken. let clash = sym not_taken ∙ cut_so.taken in cc) cut_answered
      (controlled_ring s off.controlled off.off.lent_is) refl off.drive off.controlled.held
      off.met (λ keeps. off.controlled.leads)
      (λ back. let clash = sym back ∙ lent_cut-back view (length (devices_of q)) (last_of q.guest) (Some (length (devices_of q))) (base_of a q) s off.arrived limit a q.books.log off.off off.few (le-leb a 30 low) (addresses_are (Some (length (devices_of q))) (last_of q.guest) off.few_asked) refl in cc)
