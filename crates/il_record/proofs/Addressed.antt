-- The addressing of a loop: no records in the log, none on the tape, and nothing heard.
use Rattle.std.proofs.Common.{◌≡◌, ◌∙◌, ◌≤◌, ◌&&◌, ◌==◌, ◌⊎◌, inl, inr, ⊎_elim, ℕ, zero, suc, Bool, true, false, List, [], ◌∷◌, None, length, refl, sym, ap, subst, append-nil}
use Rattle.std.specs.List.{list_all}
use Rattle.std.proofs.lemmas.Bool.{and_from, eq-eqb}
use Rattle.il_frames.specs.declared.frame.Frame.{Frame}
use Rattle.il_frames.specs.declared.entry.Entry.{Entry}
use Rattle.il_frames.specs.Messages.{message_of}
use Rattle.il_device.proofs.Laws.{message_of-aad}
use Rattle.il_ports.specs.Media.{MediumView}
use Rattle.il_device.specs.declared.device.Out.{Out}
use Rattle.il_drive.specs.Runs.{Ran}
use Rattle.il_drive.specs.State.{DriveView, status_of}
use Rattle.il_drive.proofs.ExchangesStill.{NonePuts, may_put, leaves_records}
use Rattle.il_frames.specs.NamedFrames.{ifc, aau, rfc, aad}
use Rattle.loop_model.specs.Exchanges.{Command, Address, Piece, Whole as WholeOne, Cut, Break, is_piece, breaks_off, entries_of, cut_at, can_cut}
use Rattle.loop_model.specs.Loops.{Loop, host_loop}
use Rattle.loop_model.specs.Reach.{held_at_end}
use Rattle.loop_model.specs.Roles.{OneTalker}
use Rattle.loop_model.specs.Units.{units_of}
use Rattle.loop_model.proofs.EffectLaws.{ends_within-broken}
use Rattle.il_ring.specs.Adds.{Adds}
use Rattle.il_ring.specs.Rings.{RingView, devices_of, roles_of, drive_party}
use Rattle.il_ring.specs.Journeys.{is_exact}
use Rattle.loop_model.specs.Reach.{brings_to}
use Rattle.il_control.specs.Brought.{BroughtIf, CutBrought, ComesAs, MayComeAs, is_auto_address}
use Rattle.il_control.specs.Calls.{AllStay, Resumed, NotResumed, addressing, loop_of}
use Rattle.il_control.proofs.HeldAtEnd.{quiet_ended}
use Rattle.il_record.specs.Asks.{Asked}
use Rattle.il_record.specs.Runs.{LeavesDevices, LeavesRecords, Interrupted, Readied, address_asks}
use Rattle.il_record.specs.Talks.{Talked, all_entries}
use Rattle.il_record.proofs.AddressedDrive.{resumed_drive}
use Rattle.il_record.proofs.Cuts.{counts_up, comes_may}
use Rattle.il_drive.proofs.Mild.{AllMild, ifc_ran, is_mild}
use Rattle.il_record.proofs.Places.{kept_stays}
use Rattle.il_record.proofs.HeardLogs.{heard_none, none_broke, none_whole}
use Rattle.il_record.proofs.ReadRuns.{came_still}

-- ---- whole

pub readied : {M : Type 0} (view : M → MediumView) (n : ℕ) (r s : RingView M) → drive_party r ≤ 30 → Resumed view n r s → AllStay true r s → Readied view r s
readied view n r s low done stays =
    let k = length (devices_of r) in
    let ps : List Piece = WholeOne (Command ifc) ∷ WholeOne (Command aau) ∷ WholeOne (Address n) ∷ [] in
    let adds = done.whole.adds in
    let talked : Talked view true ps r s = record {
      legal = and_from (n == k) true (eq-eqb n k done.count) refl;
      ends = refl;
      adds = adds;
      met = done.whole.met_none;
      one = done.one;
      state = done.idle;
    } in
    let q = drive_party r in
    let drive = resumed_drive view n r s low done in
    record {
      came = record { units = came_still view true ps [] r s talked refl refl (λ t. refl) (ap (λ m. (view m).tape) drive.medium); asked = (refl, (refl, (refl, tt))) };
      unheard = heard_none q r s (none_whole view r s (addressing n) refl done.whole);
      leaves = record { stays = stays; status = drive.status; medium = drive.medium };
      idle = done.idle;
    }

-- ---- broken off

-- the exchanges of an addressing that was broken off after n entries
record CutPieces (l : Loop) (n : ℕ) (b : Break) : Type 0 where
  pieces : List Piece
  entries : all_entries pieces ≡ cut_at (addressing l.devices) n b
  legal : list_all (is_piece l) pieces ≡ true
  ends : breaks_off pieces ≡ true
  none : units_of l pieces ≡ []
  asked : Asked address_asks pieces false

cut_pieces : (k q n : ℕ) (b : Break) → can_cut 0 (addressing k) n b ≡ true → CutPieces (host_loop k q) n b
cut_pieces k q zero b legal = record { pieces = Cut (Command ifc) 0 b ∷ []; entries = append-nil (cut_at (addressing k) 0 b); legal = and_from _ true legal refl; ends = refl; none = refl; asked = refl }
cut_pieces k q (suc zero) b legal = record { pieces = Cut (Command ifc) 1 b ∷ []; entries = append-nil (cut_at (addressing k) 1 b); legal = and_from _ true legal refl; ends = refl; none = refl; asked = refl }
cut_pieces k q (suc (suc zero)) b legal = record { pieces = WholeOne (Command ifc) ∷ Cut (Command aau) 0 b ∷ []; entries = append-nil (cut_at (addressing k) 2 b); legal = and_from _ true legal refl; ends = refl; none = refl; asked = (refl, refl) }
cut_pieces k q (suc (suc (suc zero))) b legal = record { pieces = WholeOne (Command ifc) ∷ Cut (Command aau) 1 b ∷ []; entries = append-nil (cut_at (addressing k) 3 b); legal = and_from _ true legal refl; ends = refl; none = refl; asked = (refl, refl) }
cut_pieces k q (suc (suc (suc (suc zero)))) b legal = record {
  pieces = WholeOne (Command ifc) ∷ WholeOne (Command aau) ∷ Cut (Address k) 0 b ∷ [];
  entries = append-nil (cut_at (addressing k) 4 b);
  legal = and_from ((k == k) && can_cut 0 (entries_of 0 (Address k)) 0 b) true (and_from (k == k) _ (eq-eqb k k refl) legal) refl;
  ends = refl;
  none = refl;
  asked = (refl, (refl, refl));
}
cut_pieces k q (suc (suc (suc (suc (suc n))))) b legal = cc

-- how its frames come: as they were sent, or AAD with a number
abbrev MayCome : (Frame → Type 0) → ℕ → Frame → Type 0
MayCome P q f = (g : Frame) → MayComeAs q f g → P g

abbrev AllMayCome : (Frame → Type 0) → ℕ → List Entry → Type 0
AllMayCome P q [] = Unit {0}
AllMayCome P q (e ∷ es) = MayCome P q e.frame × AllMayCome P q es

abbrev AllHave : (Frame → Type 0) → List Frame → Type 0
AllHave P [] = Unit {0}
AllHave P (f ∷ fs) = P f × AllHave P fs

cut_have : (P : Frame → Type 0) (k q n : ℕ) (es : List Entry) (gs : List Frame) → AllMayCome P q es → CutBrought k q es n gs → AllHave P gs
cut_have P k q n [] gs all came = subst (AllHave P) (sym came) tt
cut_have P k q zero (e ∷ es) gs all came = ⊎_elim (λ nothing. subst (AllHave P) (sym nothing) tt) (λ one. subst (AllHave P) (sym one.2) (all.0 one.0 one.1, tt)) came
cut_have P k q (suc n) (e ∷ es) gs all came = by (brings_to k q e) gs (λ gs came. cut_have P k q n es gs all.1 came) came
  where
    by : (b : Bool) (gs : List Frame) → ((gs : List Frame) → CutBrought k q es n gs → AllHave P gs) → BroughtIf b (ComesAs q e.frame) (CutBrought k q es n) gs → AllHave P gs
    by false gs rest came = rest gs came
    by true [] rest came = absurd came
    by true (g ∷ gs) rest came = (all.0 g (comes_may q e.frame g came.0), rest gs came.1)

-- it puts no record, and asks nothing of a drive
record Harmless (f : Frame) : Type 0 where
  puts_none : may_put (message_of f) ≡ false
  mild : is_mild (message_of f) ≡ true

none_puts : (gs : List Frame) → AllHave Harmless gs → NonePuts gs
none_puts [] all = tt
none_puts (g ∷ gs) all = (all.0.puts_none, none_puts gs all.1)

all_mild : (gs : List Frame) → AllHave Harmless gs → AllMild gs
all_mild [] all = tt
all_mild (g ∷ gs) all = (all.0.mild, all_mild gs all.1)

as_sent : (q : ℕ) (f : Frame) → is_exact (message_of f) ≡ true → is_auto_address (message_of f) ≡ false → Harmless f → MayCome Harmless q f
as_sent q f exact other so g comes = subst Harmless (sym (comes.other exact other)) so

-- AAD with a number
numbered : (q : ℕ) (f g : Frame) → q ≤ 30 → g ≡ aad q → Harmless g
numbered q f g low is = record { puts_none = ap (λ f. may_put (message_of f)) is ∙ ap may_put (message_of-aad q low); mild = ap (λ f. is_mild (message_of f)) is ∙ ap is_mild (message_of-aad q low) }

addressing_may : (k q : ℕ) → q ≤ 30 → AllMayCome Harmless q (addressing k)
addressing_may k q low =
    let handshake = as_sent q rfc refl refl (record { puts_none = refl; mild = refl }) in
    (as_sent q ifc refl refl (record { puts_none = refl; mild = refl }), (handshake, (as_sent q aau refl refl (record { puts_none = refl; mild = refl }), (handshake, ((λ g comes. numbered q (aad 1) g low (comes.address refl)), tt)))))

-- nothing came, or IFC and then others of them
first_came : (k q n : ℕ) (gs : List Frame) → CutBrought k q (addressing k) n gs → (gs ≡ []) ⊎ ((fs : List Frame) × (gs ≡ ifc ∷ fs))
first_came k q zero gs came = ⊎_elim (λ nothing. inl nothing) (λ one. inr ([], one.2 ∙ ap (λ g. g ∷ []) (one.1.other refl refl))) came
first_came k q (suc n) [] came = absurd came
first_came k q (suc n) (g ∷ gs) came = inr (gs, ap (λ g. g ∷ gs) (came.0.other refl refl))

-- the drive's status and its medium
record KeepsDrive {M : Type 0} (v w : DriveView M) : Type 0 where
  status : status_of w.state ≡ status_of v.state
  medium : w.medium ≡ v.medium

nothing_ran : {M : Type 0} (view : M → MediumView) (outs : List Out) (v w : DriveView M) → Ran view v [] outs w → KeepsDrive v w
nothing_ran view [] v w ran = subst (KeepsDrive v) (sym ran) (record { status = refl; medium = refl })
nothing_ran view (out ∷ outs) v w ran = absurd ran

drive_kept : {M : Type 0} (view : M → MediumView) (k q n : ℕ) (gs : List Frame) (outs : List Out) (v w : DriveView M) → q ≤ 30 → CutBrought k q (addressing k) n gs → Ran view v gs outs w → KeepsDrive v w
drive_kept view k q n gs outs v w low came ran = ⊎_elim
    (λ nothing. nothing_ran view outs v w (subst (λ gs. Ran view v gs outs w) nothing ran))
    (λ some.
    let all : AllHave Harmless (ifc ∷ some.0) = subst (AllHave Harmless) some.1 (cut_have Harmless k q n (addressing k) gs (addressing_may k q low) came) in
    let mild = ifc_ran view some.0 outs v w (all_mild some.0 all.1) (subst (λ gs. Ran view v gs outs w) some.1 ran) in
    record { status = mild.status; medium = mild.medium })
    (first_came k q n gs came)

pub not_readied : {M : Type 0} (view : M → MediumView) (r s : RingView M) → drive_party r ≤ 30 → NotResumed view r s → AllStay true r s → Interrupted view address_asks (drive_party r) r s × LeavesDevices r s
not_readied view r s low not stays =
    let k = length (devices_of r) in
    let q = drive_party r in
    let broke = not.broke in
    let cut = cut_pieces k q broke.standing broke.break broke.legal in
    let ended = quiet_ended view r s (addressing k) broke refl in
    let adds : Adds view r None (all_entries cut.pieces) (held_at_end None (all_entries cut.pieces)) s =
    subst (λ es. Adds view r None es (held_at_end None es) s) (sym cut.entries) (subst (λ held. Adds view r None (cut_at (addressing k) broke.standing broke.break) held s) ended broke.adds) in
    let talked : Talked view false cut.pieces r s = record {
      legal = cut.legal;
      ends = cut.ends;
      adds = adds;
      met = broke.met_some;
      one = subst (OneTalker (roles_of (devices_of r))) (sym cut.entries) not.one;
      state = not.lost;
    } in
    let left : LeavesRecords view r.drive s.drive = record {
      still = leaves_records view broke.adds.came broke.adds.answers r.drive s.drive (none_puts broke.adds.came (cut_have Harmless k q broke.standing (addressing k) broke.adds.came (addressing_may k q low) (broke.brought refl))) broke.adds.drive;
      count = counts_up view broke.adds.came broke.adds.answers r.drive s.drive broke.adds.drive;
    } in
    let kept = drive_kept view k q broke.standing broke.adds.came broke.adds.answers r.drive s.drive low (broke.brought refl) broke.adds.drive in (
      record {
        came = record { units = came_still view false cut.pieces [] r s talked (ends_within-broken (loop_of r) cut.pieces cut.ends) cut.none (λ t. refl) left.still.tape; asked = cut.asked };
        unheard = heard_none q r s (none_broke view r s (addressing k) refl broke);
        places = kept_stays r s true stays;
        drive = left;
      },
      record { stays = stays; status = kept.status; medium = kept.medium },
    )
