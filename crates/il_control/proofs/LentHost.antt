-- The drive as a host lends a ring and takes it back: the commands of that, and TCT, leave its medium and its status.
use Rattle.std.proofs.Common.{◌≡◌, ◌≢◌, ◌∙◌, ◌≤◌, ◌+◌, ◌++◌, ◌&&◌, ◌⊎◌, inl, inr, ⊎_elim, not, ℕ, zero, suc, Bool, true, false, List, [], ◌∷◌, Option, Some, None, length, refl, sym, ap, subst, arith, append-nil, length-append}
use Rattle.std.specs.List.{list_all}
use Rattle.std.proofs.lemmas.Bool.{and_from, and_parts, not-true}
use Rattle.il_frames.specs.declared.entry.Entry.{Entry}
use Rattle.il_frames.specs.declared.frame.Frame.{Frame}
use Rattle.il_frames.specs.Frames.{is_data}
use Rattle.il_frames.specs.Messages.{message_of}
use Rattle.il_frames.specs.NamedFrames.{ifc, rfc, tad, unl}
use Rattle.il_device.specs.declared.device.Out.{Out}
use Rattle.il_device.specs.declared.roles.Roles.{Roles}
use Rattle.il_device.specs.State.{DeviceState, risen_by}
use Rattle.il_ports.specs.Media.{MediumView}
use Rattle.il_drive.specs.declared.mode.Start.TheVariants as start
use Rattle.il_drive.specs.State.{DriveView, device_of, status_of}
use Rattle.il_drive.specs.Runs.{Ran}
use Rattle.il_drive.proofs.ExchangesStill.{roles-ran}
use Rattle.il_drive.proofs.Mild.{IsMildFor, ifc_one, unl_ran}
use Rattle.loop_model.specs.Exchanges.{commanded, returned}
use Rattle.loop_model.specs.Reach.{brings_to}
use Rattle.il_guest.specs.Frames.{nop, tct}
use Rattle.il_guest.proofs.SentLemmas.{message_of-tad}
use Rattle.il_ring.specs.declared.plan.PlanFault.{PlanFault}
use Rattle.il_ring.specs.declared.plan.Arrival.{Arrival}
use Rattle.il_ring.specs.declared.flight.Flight.{Flight}
use Rattle.il_ring.specs.Flights.{hit, sourced}
use Rattle.il_ring.specs.HandedOver.{HandedOver}
use Rattle.il_ring.specs.Journeys.{DriveTakes, Meets, Passage, Trip, is_exact, trip}
use Rattle.il_ring.specs.Lending.{ControlledRound}
use Rattle.il_ring.specs.Lists.{First}
use Rattle.il_ring.specs.Outcomes.{Obeys}
use Rattle.il_ring.specs.Plans.{next_fault}
use Rattle.il_ring.specs.Rings.{RingView, devices_of, drive_party}
use Rattle.il_ring.specs.Turned.{StandsThere}
use Rattle.il_ring.proofs.EndsHome.{any_each}
use Rattle.il_ring.proofs.PassKinds.{Any, Is, plain_passes}
use Rattle.il_ring.proofs.Passes.{LostAfter, Through, goes_past, plain_hit}
use Rattle.il_control.specs.Brought.{Brought, BroughtIf, ComesAs, CutBrought, MayComeAs, is_auto_address, is_from_here}
use Rattle.il_control.specs.Calls.{Broke, Whole}
use Rattle.il_control.specs.Lent.{DriveLeft}
use Rattle.il_control.proofs.LentCame.{StaysSo, plain_message, plain_stays, quiet_message}
use Rattle.il_control.proofs.LentMild.{DriveMild, own_way}
use Rattle.il_control.proofs.LentWalks.{own_hit}
use Rattle.il_device.specs.Roles.{is_data_message}

-- ---- plain messages

abbrev pub plain_entry : Entry → Bool
plain_entry e = plain_message (message_of e.frame)

abbrev pub AllPlain : List Frame → Type 0
AllPlain [] = Unit {0}
AllPlain (g ∷ gs) = (plain_message (message_of g) ≡ true) × AllPlain gs

exact_of : (m : _) → plain_message m ≡ true → (is_exact m ≡ true) × (is_auto_address m ≡ false)
exact_of m plain =
    let one = and_parts (is_exact m) (not (is_auto_address m) && (quiet_message start.Status m && not (is_data_message m))) plain in
    let two = and_parts (not (is_auto_address m)) (quiet_message start.Status m && not (is_data_message m)) one.1 in
    (one.0, not-true (is_auto_address m) two.0)

may_plain : (q : ℕ) (f g : Frame) → plain_message (message_of f) ≡ true → MayComeAs q f g → plain_message (message_of g) ≡ true
may_plain q f g plain comes = let kind = exact_of (message_of f) plain in ap (λ f. plain_message (message_of f)) (comes.other kind.0 kind.1) ∙ plain

comes_plain : (q : ℕ) (f g : Frame) → plain_message (message_of f) ≡ true → ComesAs q f g → plain_message (message_of g) ≡ true
comes_plain q f g plain comes = let kind = exact_of (message_of f) plain in ap (λ f. plain_message (message_of f)) (comes.other kind.0 kind.1) ∙ plain

brought_plain : (k q : ℕ) (es : List Entry) (gs : List Frame) → list_all plain_entry es ≡ true → Brought k q es gs → AllPlain gs
brought_plain k q [] gs plain came = subst AllPlain (sym came) tt
brought_plain k q (e ∷ es) gs plain came =
    let both = and_parts (plain_entry e) (list_all plain_entry es) plain in
    by (brings_to k q e) gs came both.0 (λ gs came. brought_plain k q es gs both.1 came)
  where
    by : (b : Bool) (gs : List Frame) → BroughtIf b (ComesAs q e.frame) (Brought k q es) gs → plain_entry e ≡ true → ((gs : List Frame) → Brought k q es gs → AllPlain gs) → AllPlain gs
    by false gs came here rest = rest gs came
    by true [] came here rest = absurd came
    by true (g ∷ gs) came here rest = (comes_plain q e.frame g here came.0, rest gs came.1)

cut_plain : (k q n : ℕ) (es : List Entry) (gs : List Frame) → list_all plain_entry es ≡ true → CutBrought k q es n gs → AllPlain gs
cut_plain k q n [] gs plain came = subst AllPlain (sym came) tt
cut_plain k q zero (e ∷ es) gs plain came =
    let both = and_parts (plain_entry e) (list_all plain_entry es) plain in
    ⊎_elim (λ nothing. subst AllPlain (sym nothing) tt) (λ one. subst AllPlain (sym one.2) (may_plain q e.frame one.0 both.0 one.1, tt)) came
cut_plain k q (suc n) (e ∷ es) gs plain came =
    let both = and_parts (plain_entry e) (list_all plain_entry es) plain in
    by (brings_to k q e) gs came both.0 (λ gs came. cut_plain k q n es gs both.1 came)
  where
    by : (b : Bool) (gs : List Frame) → BroughtIf b (ComesAs q e.frame) (CutBrought k q es n) gs → plain_entry e ≡ true → ((gs : List Frame) → CutBrought k q es n gs → AllPlain gs) → AllPlain gs
    by false gs came here rest = rest gs came
    by true [] came here rest = absurd came
    by true (g ∷ gs) came here rest = (comes_plain q e.frame g here came.0, rest gs came.1)

-- those of a lend, after its UNL and with it
pub tad_plain : (a : ℕ) → a ≤ 30 → list_all plain_entry (returned 0 rfc ∷ commanded 0 (tad a)) ≡ true
tad_plain a low = and_from (plain_message (message_of (tad a))) true (ap plain_message (message_of-tad a low)) refl

-- ---- what they leave of the drive

-- its medium and its status
pub record StaysStill {M : Type 0} (v w : DriveView M) : Type 0 where
  pub medium : w.medium ≡ v.medium
  pub status : status_of w.state ≡ status_of v.state

-- what was left of it is left still
pub left_still : {M : Type 0} (before v w : DriveView M) → DriveLeft before v → StaysStill v w → DriveLeft before w
left_still before v w left still = record { medium = still.medium ∙ left.medium; status = ⊎_elim (λ same. inl (still.status ∙ same)) (λ none. inr (still.status ∙ none)) left.status }

-- and then it does not listen
pub record StaysDeaf {M : Type 0} (v w : DriveView M) : Type 0 where
  pub medium : w.medium ≡ v.medium
  pub status : status_of w.state ≡ status_of v.state
  pub mild : IsMildFor start.Status w.state
  pub deaf : w.state.interface.roles.listens ≡ false

pub stays_then : {M : Type 0} (u v w : DriveView M) → StaysSo u v → StaysSo v w → StaysSo u w
stays_then u v w first more = record { medium = more.medium ∙ first.medium; status = more.status ∙ first.status; mild = more.mild; deaf = λ deaf. more.deaf (first.deaf deaf) }

pub deaf_then : {M : Type 0} (u v w : DriveView M) → StaysDeaf u v → StaysSo v w → StaysDeaf u w
deaf_then u v w first more = record { medium = more.medium ∙ first.medium; status = more.status ∙ first.status; mild = more.mild; deaf = more.deaf first.deaf }

module _ {M : Type 0} (view : M → MediumView) where
  pub plains_stay : (gs : List Frame) (outs : List Out) (v w : DriveView M) → AllPlain gs → IsMildFor start.Status v.state → Ran view v gs outs w → StaysSo v w
  plains_stay [] [] v w plain mild ran = subst (StaysSo v) (sym ran) (record { medium = refl; status = refl; mild = mild; deaf = λ d. d })
  plains_stay [] (out ∷ outs) v w plain mild ran = absurd ran
  plains_stay (g ∷ gs) [] v w plain mild ran = absurd ran
  plains_stay (g ∷ gs) (out ∷ outs) v w plain mild ran =
      let first = plain_stays view g (g ∷ []) (out ∷ []) v ran.0 plain.0 (inr refl) mild (ran.0, ran.1, refl) in
      stays_then v ran.0 w first (plains_stay gs outs ran.0 w plain.1 first.mild ran.2)

  -- from UNL on, to a drive that sends nothing
  unl_stays : (gs : List Frame) (outs : List Out) (v w : DriveView M) → v.state.interface.own ≡ None → AllPlain gs → Ran view v (unl ∷ gs) outs w → StaysDeaf v w
  unl_stays gs [] v w silent plain ran = absurd ran
  unl_stays gs (out ∷ outs) v w silent plain ran =
      let one : Ran view v (unl ∷ []) (out ∷ []) ran.0 = (ran.0, ran.1, refl) in
      let mild = unl_ran {what = start.Status} view [] (out ∷ []) v ran.0 silent tt one in
      let still = unl_ran {what = start.Data} view [] (out ∷ []) v ran.0 silent tt one in
      let roles = roles-ran view (unl ∷ []) (out ∷ []) v ran.0 one in
      deaf_then v ran.0 w (record { medium = mild.medium; status = still.status; mild = mild.mild; deaf = ap (λ (r : Roles). r.listens) roles }) (plains_stay gs outs ran.0 w plain mild.mild ran.2)

  -- from IFC on, whatever it did before
  ifc_stays : (gs : List Frame) (outs : List Out) (v w : DriveView M) → AllPlain gs → Ran view v (ifc ∷ gs) outs w → StaysDeaf v w
  ifc_stays gs [] v w plain ran = absurd ran
  ifc_stays gs (out ∷ outs) v w plain ran =
      let one : Ran view v (ifc ∷ []) (out ∷ []) ran.0 = (ran.0, ran.1, refl) in
      let mild = ifc_one start.Status view (out ∷ []) v ran.0 one in
      let still = ifc_one start.Data view (out ∷ []) v ran.0 one in
      let roles = roles-ran view (ifc ∷ []) (out ∷ []) v ran.0 one in
      deaf_then v ran.0 w (record { medium = mild.medium; status = still.status; mild = mild.mild; deaf = ap (λ (r : Roles). r.listens) roles }) (plains_stay gs outs ran.0 w plain mild.mild ran.2)

  nothing_came : (gs : List Frame) (outs : List Out) (v w : DriveView M) → gs ≡ [] → Ran view v gs outs w → w ≡ v
  nothing_came gs outs v w none ran = by outs (subst (λ gs. Ran view v gs outs w) none ran)
    where
      by : (outs : List Out) → Ran view v [] outs w → w ≡ v
      by [] ran = ran
      by (out ∷ outs) ran = absurd ran

  -- UNL or IFC was the first that was cut
  first_came : (k q : ℕ) (f : Frame) (es : List Entry) (n : ℕ) (gs : List Frame) → plain_message (message_of f) ≡ true → list_all plain_entry es ≡ true → CutBrought k q (returned 0 f ∷ es) n gs → (gs ≡ []) ⊎ ((more : List Frame) × (gs ≡ f ∷ more) × AllPlain more)
  first_came k q f es zero gs plain all came = let kind = exact_of (message_of f) plain in ⊎_elim (λ nothing. inl nothing) (λ one. inr ([], one.2 ∙ ap (λ g. g ∷ []) (one.1.other kind.0 kind.1), tt)) came
  first_came k q f es (suc n) [] plain all came = absurd came
  first_came k q f es (suc n) (g ∷ gs) plain all came = let kind = exact_of (message_of f) plain in inr (gs, ap (λ g. g ∷ gs) (came.0.other kind.0 kind.1), cut_plain k q n es gs all came.1)

  first_brought : (k q : ℕ) (f : Frame) (es : List Entry) (gs : List Frame) → plain_message (message_of f) ≡ true → list_all plain_entry es ≡ true → Brought k q (returned 0 f ∷ es) gs → (more : List Frame) × (gs ≡ f ∷ more) × AllPlain more
  first_brought k q f es [] plain all came = absurd came
  first_brought k q f es (g ∷ gs) plain all came = let kind = exact_of (message_of f) plain in (gs, ap (λ g. g ∷ gs) (came.0.other kind.0 kind.1), brought_plain k q es gs all came.1)

  -- ---- the calls

  module _ (r s : RingView M) (es : List Entry) (plain : list_all plain_entry es ≡ true) (here : list_all (is_from_here (drive_party r)) es ≡ true) where
    -- from UNL on
    pub unl_whole : r.drive.state.interface.own ≡ None → Whole view r (returned 0 unl ∷ es) s → StaysDeaf r.drive s.drive
    unl_whole silent whole =
        let first = first_brought (length (devices_of r)) (drive_party r) unl es whole.adds.came refl plain (whole.brought here) in
        unl_stays first.0 whole.adds.answers r.drive s.drive silent first.2 (subst (λ gs. Ran view r.drive gs whole.adds.answers s.drive) first.1 whole.adds.drive)

    pub unl_broke : r.drive.state.interface.own ≡ None → Broke view r (returned 0 unl ∷ es) s → (s.drive ≡ r.drive) ⊎ StaysDeaf r.drive s.drive
    unl_broke silent broke = ⊎_elim
        (λ none. inl (nothing_came broke.adds.came broke.adds.answers r.drive s.drive none broke.adds.drive))
        (λ some. inr (unl_stays some.0 broke.adds.answers r.drive s.drive silent some.2 (subst (λ gs. Ran view r.drive gs broke.adds.answers s.drive) some.1 broke.adds.drive)))
        (first_came (length (devices_of r)) (drive_party r) unl es broke.standing broke.adds.came refl plain (broke.brought here))

    -- from IFC on
    pub ifc_whole : Whole view r (returned 0 ifc ∷ es) s → StaysDeaf r.drive s.drive
    ifc_whole whole =
        let first = first_brought (length (devices_of r)) (drive_party r) ifc es whole.adds.came refl plain (whole.brought here) in
        ifc_stays first.0 whole.adds.answers r.drive s.drive first.2 (subst (λ gs. Ran view r.drive gs whole.adds.answers s.drive) first.1 whole.adds.drive)

    pub ifc_broke : Broke view r (returned 0 ifc ∷ es) s → (s.drive ≡ r.drive) ⊎ StaysDeaf r.drive s.drive
    ifc_broke broke = ⊎_elim
        (λ none. inl (nothing_came broke.adds.came broke.adds.answers r.drive s.drive none broke.adds.drive))
        (λ some. inr (ifc_stays some.0 broke.adds.answers r.drive s.drive some.2 (subst (λ gs. Ran view r.drive gs broke.adds.answers s.drive) some.1 broke.adds.drive)))
        (first_came (length (devices_of r)) (drive_party r) ifc es broke.standing broke.adds.came refl plain (broke.brought here))

  pub still_of : (v w : DriveView M) → (w ≡ v) ⊎ StaysDeaf v w → StaysStill v w
  still_of v w (inl same) = record { medium = ap (λ (u : DriveView M). u.medium) same; status = ap (λ (u : DriveView M). status_of u.state) same }
  still_of v w (inr stays) = record { medium = stays.medium; status = stays.status }

-- ---- TCT

module _ {M : Type 0} (view : M → MediumView) (r s : RingView M) (answer : Arrival) (round : ControlledRound view r (sourced 0 tct) answer s) where
  -- it came to the drive, or did not
  tct_came : (s.drive ≡ r.drive) ⊎ ((out : Out) × DriveTakes view r.drive tct out s.drive)
  tct_came = ⊎_elim
      (λ (on : Through (Is tct) Any (Obeys (message_of tct)) r.books.plan 1 r.books.crossings r.books.log (sourced 0 tct) r.before round.at_drive s.before).
      let g : Flight = record { source = 0; sent = tct; now = on.now; altered = false } in
      let at = subst (λ t. Passage (DriveTakes view) r.books.plan (length r.before + 1) t r.drive round.past_drive s.drive) on.trip_is round.at in
      meets (trip (risen_by (length r.before) r.books.crossings) r.books.log (Some g)) g (next_fault r.books.plan (risen_by (length r.before) r.books.crossings)) on.is_now at)
      (λ (lost : LostAfter (Is tct) Any (Obeys (message_of tct)) r.books.plan 1 r.books.crossings r.books.log (sourced 0 tct) r.before round.at_drive s.before).
      inl (subst (λ t. Passage (DriveTakes view) r.books.plan (length r.before + 1) t r.drive round.past_drive s.drive) lost.trip_is round.at).1)
      (goes_past (Is tct) Any (Obeys (message_of tct)) (plain_passes tct refl) r.books.plan 1 r.books.crossings r.books.log (sourced 0 tct) r.before s.before round.at_drive (any_each 1 r.before) refl round.to_drive)
    where
      meets : (t : Trip) (g : Flight) (fault : Option PlanFault) → g.now ≡ tct → Meets (DriveTakes view) (length r.before + 1) t g (hit fault g) r.drive round.past_drive s.drive → (s.drive ≡ r.drive) ⊎ ((out : Out) × DriveTakes view r.drive tct out s.drive)
      meets t g None is at = inr (at.0, subst (λ f. DriveTakes view r.drive f at.0 s.drive) is at.1)
      meets t g (Some fault) is at =
          let lost = subst (λ o. Meets (DriveTakes view) (length r.before + 1) t g o r.drive round.past_drive s.drive) (plain_hit fault g (ap is_data is)) at in
          inl lost.1

  -- it leaves the drive's medium and its status
  pub tct_stays : IsMildFor start.Status r.drive.state → StaysSo r.drive s.drive
  tct_stays mild = ⊎_elim
      (λ same. subst (StaysSo r.drive) (sym same) (record { medium = refl; status = refl; mild = mild; deaf = λ d. d }))
      (λ came. plain_stays view tct (tct ∷ []) (came.0 ∷ []) r.drive s.drive refl (inr refl) mild (s.drive, came.1.did, refl))
      tct_came

  pub drive_handed_left : IsMildFor start.Status r.drive.state → DriveLeft r.drive s.drive
  drive_handed_left mild = let stays = tct_stays mild in record { medium = stays.medium; status = inl stays.status }

  module _ (mild : IsMildFor start.Status r.drive.state) (deaf : r.drive.state.interface.roles.listens ≡ false) (over : HandedOver r answer s) where
    length_first : (P : DeviceState → DeviceState → Type 0) (n : ℕ) (ds es : List DeviceState) → First P n ds es → length es ≡ length ds
    length_first P n [] [] took = refl
    length_first P zero (d ∷ ds) (e ∷ es) took = ap suc (length_first P zero ds es took.1)
    length_first P (suc n) (d ∷ ds) (e ∷ es) took = ap suc (length_first P n ds es took.1)
    length_first P n [] (e ∷ es) took = absurd took
    length_first P n (d ∷ ds) [] took = absurd took

    -- if the second controller's NOP is at the host, all that is kept of the drive while it polls holds
    pub drive_handed : (base es : List Entry) (before : ℕ) → s.books.log ≡ base → StandsThere r es (sourced (length (devices_of r)) nop) None before answer s → DriveMild r.drive base s
    drive_handed base es before log there =
        let stays = tct_stays mild in
        let lent = there.lent_is ∙ ap (λ f. Some f) (own_hit (length (devices_of r)) nop (next_fault r.books.plan before) there.at refl there.came) in
        record {
          so = record {
            entries = [];
            log = log ∙ sym (append-nil base);
            deaf = stays.deaf deaf;
            medium = stays.medium;
            told = stays.status;
            under_way = own_way s (sourced (length (devices_of r)) nop) there.kept_is lent no_last;
          };
          mild = stays.mild;
        }
      where
        no_last : length (devices_of r) ≢ drive_party s
        no_last same =
            let front = length_first (Obeys (message_of tct)) (length (r.before ++ device_of r.drive.state ∷ over.boxed)) (r.before ++ device_of r.drive.state ∷ over.boxed) (s.before ++ device_of s.drive.state ∷ over.boxed_then) over.obeyed in
            let here = length-append r.before (device_of r.drive.state ∷ over.boxed) in
            let there = length-append s.before (device_of s.drive.state ∷ over.boxed_then) in
            let all = length-append r.before (device_of r.drive.state ∷ r.after) in
            let after = ap length over.after ∙ length-append over.boxed (over.g.device ∷ []) in
            omega (arith, same, front, here, there, all, after)
