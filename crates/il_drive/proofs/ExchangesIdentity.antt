-- The accessory ID as one exchange: the drive tells it, and is at rest then. Its status stays.
use Rattle.std.proofs.Common.{◌≡◌, ◌≤◌, ◌++◌, ℕ, true, false, List, [], ◌∷◌, refl, ap, ◌∙◌}
use Rattle.std.specs.Prelude.{Some, None}
use Rattle.il_ports.specs.Media.{MediumView}
use Rattle.il_frames.specs.declared.frame.Class.TheVariants as class
use Rattle.il_frames.specs.declared.frame.Frame.{Frame}
use Rattle.il_frames.specs.declared.message.Message.TheVariants as msg
use Rattle.il_frames.specs.Frames.{framed, is_data, same_but_service}
use Rattle.il_device.specs.declared.device.Out.{Out}
use Rattle.il_device.specs.declared.device.Out.TheVariants.{Pass, Source}
use Rattle.il_device.specs.declared.interface.OwnFrame.{OwnFrame}
use Rattle.il_device.specs.Roles.{own_after}
use Rattle.il_device.specs.Takes.{just_sent, turn_at_start, asked_for_id, eto}
use Rattle.il_drive.specs.declared.mode.Mode.TheVariants as mode
use Rattle.il_drive.specs.declared.mode.Start.TheVariants as start
use Rattle.il_drive.specs.State.{DriveState, DriveView}
use Rattle.il_drive.specs.Steps.{Now}
use Rattle.il_drive.specs.Table as table
use Rattle.il_drive.specs.Runs.{Ran}
use Rattle.il_drive.proofs.Sending.{step_ends}
use Rattle.il_drive.proofs.Reading.{nrd}
use Rattle.il_drive.proofs.Exchanges.{Stance, stance_of, goes_by, all_pass, parts}
use Rattle.il_drive.proofs.ExchangesAddressed.{unl, unt, rfc, tad, talker, bystander, turned, goes_talking, stance_of-data}
use Rattle.il_drive.proofs.ExchangesStatus.{comes, untalks}
use Rattle.il_drive.proofs.ExchangesStill.{accessory-ran}

-- the start message SAI
abbrev pub sai : Frame
sai = framed class.Rdy 0x63

-- SAI to the talker sends the accessory ID
pub step_identifies : (n : ℕ) (s : DriveState) (id : ℕ) → s.interface.roles.talks ≡ true → s.interface.own ≡ None → s.interface.accessory ≡ Some id
    → table.drive_step n s sai ≡ Now (table.sends start.Identity true id (table.behind_effect sai s))
step_identifies n s id talks silent known =
    let i = s.interface in
    ap (λ asked. table.answered asked n i.roles sai (table.behind_effect sai s))
    (ap (λ own. turn_at_start own i.roles.talks (asked_for_id i.accessory)) silent ∙ ap (λ talks. turn_at_start None talks (asked_for_id i.accessory)) talks ∙ ap asked_for_id known)

-- the drive talks, and its ID is on the loop
abbrev pub identifying : ℕ → ℕ → Stance → Stance
identifying p id σ = record (turned (talker p) σ) { own = Some (just_sent (framed class.Dab id) true); begun = start.Identity }

module _ {M : Type 0} (view : M → MediumView) where
  pub record Identifies (p id : ℕ) (outs : List Out) (v w : DriveView M) : Type 0 where
    pub answers : outs ≡ Pass unl ∷ Pass rfc ∷ Pass (tad p) ∷ Pass rfc ∷ Source (framed class.Dab id) ∷ []
    pub stance : stance_of w.state ≡ identifying p id (stance_of v.state)
    pub medium : w.medium ≡ v.medium

  pub begins_identifying : (p id : ℕ) (outs : List Out) (v w : DriveView M) → p ≤ 30 → v.state.interface.roles.address ≡ Some p → v.state.interface.roles.talks ≡ false
      → v.state.interface.accessory ≡ Some id → Ran view v (unl ∷ rfc ∷ tad p ∷ rfc ∷ sai ∷ []) outs w → Identifies p id outs v w
  begins_identifying p id outs v w le at mute known ran =
      let part = parts view (unl ∷ rfc ∷ tad p ∷ rfc ∷ []) (sai ∷ []) outs v w ran in
      let u = part.middle in
      let went = goes_talking view p [] [] part.first v u le at mute tt refl refl part.before in
      let told =
      comes view sai _ _ part.more u w
      (step_identifies (view u.medium).record_count u.state id (ap (λ (σ : Stance). σ.roles.talks) went.0) (ap (λ (σ : Stance). σ.own) went.0) (accessory-ran view (unl ∷ rfc ∷ tad p ∷ rfc ∷ []) part.first v u part.before ∙ known)) part.behind in
      record {
        answers = part.answers ∙ (λ i. went.2 i ++ told.answer i);
        stance = ap stance_of told.state ∙ ap (λ (σ : Stance). record σ { own = Some (just_sent (framed class.Dab id) true); begun = start.Identity }) went.0;
        medium = told.medium ∙ went.1;
      }

  -- NRD, the right echo of the ID, UNT
  pub record EndsIdentity (p : ℕ) (outs : List Out) (v w : DriveView M) : Type 0 where
    pub answers : outs ≡ Pass nrd ∷ Source eto ∷ Pass unt ∷ Pass rfc ∷ []
    pub stance : stance_of w.state ≡ turned (bystander p) (stance_of v.state)
    pub medium : w.medium ≡ v.medium

  pub ends_identity : (p id : ℕ) (f : Frame) (outs : List Out) (v w : DriveView M) → v.state.interface.roles ≡ talker p → v.state.begun ≡ start.Identity
      → v.state.interface.own ≡ Some (just_sent (framed class.Dab id) true) → is_data f ≡ true → same_but_service (framed class.Dab id) f ≡ true
      → Ran view v (nrd ∷ f ∷ unt ∷ rfc ∷ []) outs w → EndsIdentity p outs v w
  ends_identity p id f outs v w talks by own h right ran =
      let heard = parts view (nrd ∷ []) (f ∷ unt ∷ rfc ∷ []) outs v w ran in
      let u = heard.middle in
      let went = goes_by view (msg.Nrd ∷ []) (nrd ∷ []) heard.first v u (refl, tt) refl heard.before in
      let echoed = parts view (f ∷ []) (unt ∷ rfc ∷ []) heard.more u w heard.behind in
      let x = echoed.middle in
      let stopped : OwnFrame = record { frame = framed class.Dab id; last = true; stopped = true } in
      let on_loop : u.state.interface.own ≡ Some stopped = ap (λ (σ : Stance). σ.own) went.stance ∙ ap (λ own. own_after v.state.interface.roles own msg.Nrd) own in
      let over = comes view f _ _ echoed.first u x (step_ends (view u.medium).record_count u.state f stopped on_loop h right refl) echoed.before in
      let begun : u.state.begun ≡ start.Identity = ap (λ (σ : Stance). σ.begun) went.stance ∙ by in
      let stance : stance_of x.state ≡ record (stance_of v.state) { own = None; mode = mode.Rest } =
      ap stance_of over.state ∙ ap (λ b. record (stance_of (table.acknowledged b (table.behind_effect f u.state))) { own = None; mode = mode.Rest }) begun
      ∙ ap (λ (σ : Stance). record σ { own = None; mode = mode.Rest }) (stance_of-data u.state f h ∙ went.stance) in
      let ends = untalks view p echoed.more x w (ap (λ (σ : Stance). σ.roles) stance ∙ talks) echoed.behind in
      record {
        answers = heard.answers ∙ (λ i. all_pass (msg.Nrd ∷ []) (nrd ∷ []) heard.first refl went.answers i ++ (echoed.answers ∙ (λ j. over.answer j ++ ends.2 j)) i);
        stance = ends.0 ∙ ap (turned (bystander p)) stance;
        medium = ends.1 ∙ over.medium ∙ went.medium;
      }

  -- ---- all of it

  pub record HasIdentified (p id : ℕ) (outs : List Out) (v w : DriveView M) : Type 0 where
    pub answers : outs ≡ Pass unl ∷ Pass rfc ∷ Pass (tad p) ∷ Pass rfc ∷ Source (framed class.Dab id) ∷ Pass nrd ∷ Source eto ∷ Pass unt ∷ Pass rfc ∷ []
    pub stance : stance_of w.state ≡ record (turned (bystander p) (stance_of v.state)) { begun = start.Identity }
    pub medium : w.medium ≡ v.medium

  pub identifies : (p id : ℕ) (f : Frame) (outs : List Out) (v w : DriveView M) → p ≤ 30 → v.state.interface.roles.address ≡ Some p → v.state.interface.roles.talks ≡ false
      → v.state.interface.accessory ≡ Some id → is_data f ≡ true → same_but_service (framed class.Dab id) f ≡ true
      → Ran view v (unl ∷ rfc ∷ tad p ∷ rfc ∷ sai ∷ nrd ∷ f ∷ unt ∷ rfc ∷ []) outs w → HasIdentified p id outs v w
  identifies p id f outs v w le at mute known h right ran =
      let part = parts view (unl ∷ rfc ∷ tad p ∷ rfc ∷ sai ∷ []) (nrd ∷ f ∷ unt ∷ rfc ∷ []) outs v w ran in
      let u = part.middle in
      let begins = begins_identifying p id part.first v u le at mute known part.before in
      let ends = ends_identity p id f part.more u w (ap (λ (σ : Stance). σ.roles) begins.stance) (ap (λ (σ : Stance). σ.begun) begins.stance) (ap (λ (σ : Stance). σ.own) begins.stance) h right part.behind in
      record {
        answers = part.answers ∙ (λ i. begins.answers i ++ ends.answers i);
        stance = ends.stance ∙ ap (turned (bystander p)) begins.stance;
        medium = ends.medium ∙ begins.medium;
      }
