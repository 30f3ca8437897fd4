-- A host that is closed.
use Rattle.std.proofs.Common.{◌≡◌, ◌∙◌, ℕ, List, [], ◌∷◌, ◌++◌, length, Option, Some, None, refl, sym, ap, subst, arith, append-nil, length-append}
use Rattle.lif_model.specs.Stops.{StandsStill}
use Rattle.lif_model.specs.Tape.{Tape}
use Rattle.il_ports.specs.Media.{MediumView}
use Rattle.il_device.specs.State.{DeviceState}
use Rattle.il_guest.specs.State.{GuestState}
use Rattle.lif_volume.specs.declared.volume.Volume.{Volume}
use Rattle.il_ring.specs.declared.ring.Ring.{Ring}
use Rattle.il_ring.specs.Guests.{GuestMind, guest_devices, guest_mind, last_asked, mind_of}
use Rattle.il_ring.specs.Rings.{RingView}
use Rattle.il_record.specs.declared.records.LoopRecords.{LoopRecords}
use Rattle.il_host.specs.Hosts.{IsClosed, Space, host_in, loop_in}

-- ---- what is handed back of a second controller

-- lists that are the same with an element after each
same_last : {X : Type 0} (xs ys : List X) (x y : X) → xs ++ x ∷ [] ≡ ys ++ y ∷ [] → (xs ≡ ys) × (x ≡ y)
same_last [] [] x y same = (refl, ap (λ l. elim l [ [] ↦ x | z ∷ rest ↦ z ]) same)
same_last [] (z ∷ ys) x y same = let count = ap length same ∙ length-append (z ∷ ys) (y ∷ []) in absurd (omega (arith, count))
same_last (z ∷ xs) [] x y same = let count = sym (length-append (z ∷ xs) (x ∷ [])) ∙ ap length same in absurd (omega (arith, count))
same_last (w ∷ xs) (z ∷ ys) x y same =
    let rest = same_last xs ys x y (ap (λ l. elim l [ [] ↦ xs ++ x ∷ [] | v ∷ rest ↦ rest ]) same) in
    let first : w ≡ z = ap (λ l. elim l [ [] ↦ w | v ∷ rest ↦ v ]) same in
    (ap (λ v. v ∷ xs) first ∙ ap (λ l. z ∷ l) rest.0, rest.1)

-- its device and what it has in mind are all of it
abbrev guest_of : DeviceState → GuestMind → GuestState
guest_of device mind = record { device = device; last = mind.last; control = mind.control; found = mind.found }

same_guest : (g h : GuestState) → g.device ≡ h.device → mind_of g ≡ mind_of h → g ≡ h
same_guest g h device mind = ap (λ d. guest_of d (mind_of g)) device ∙ ap (guest_of h.device) mind

-- The devices and a second controller as the last one are the same, and so is what it has in mind: then each part is the same.
handed_back_same : (ds es : List DeviceState) (g h : Option GuestState) → ds ++ guest_devices g ≡ es ++ guest_devices h → guest_mind g ≡ guest_mind h → (ds ≡ es) × (g ≡ h)
handed_back_same ds es None None same mind = (sym (append-nil ds) ∙ same ∙ append-nil es, refl)
handed_back_same ds es (Some g) (Some h) same mind =
    let parts = same_last ds es g.device h.device same in
    (parts.0, ap Some (same_guest g h parts.1 (ap (λ m. elim m [ None ↦ mind_of g | Some n ↦ n ]) mind)))
handed_back_same ds es _ _ same mind = cc

-- what a ring was made of is handed back by a ring that is as that one
pub unsent : {M : Type 0} (r t : RingView M) (ds es : List DeviceState) (g h : Option GuestState) → t ≡ r → r.after ≡ es ++ guest_devices h → r.guest ≡ guest_mind h
    → ds ++ guest_devices g ≡ t.after → guest_mind g ≡ t.guest → (ds ≡ es) × (g ≡ h)
unsent {M} r t ds es g h same made made_guest handed handed_guest =
    handed_back_same ds es g h (handed ∙ ap (λ (r : RingView M). r.after) same ∙ made) (handed_guest ∙ ap (λ (r : RingView M). r.guest) same ∙ made_guest)

-- ---- a host that is closed

still : (since : ℕ → Tape → Type 0) → StandsStill since since
still since = record { nothing_else = λ m c left. left; keeps = λ m c left. left }

-- what a ring hands back: its medium, and its devices with a second controller as the last one
pub record HandsBack {M : Type 0} (r : RingView M) (medium : M) (before after : List DeviceState) (guest : Option GuestState) : Type 0 where
  pub medium_is : medium ≡ r.drive.medium
  pub devices_before : before ≡ r.before
  pub devices_after : after ++ guest_devices guest ≡ r.after
  pub guest_is : guest_mind guest ≡ r.guest

module _ {M I : Type 0} {D : I → Type 0} (view : M → MediumView) (seen : Ring M I D → RingView M) (v : Volume (LoopRecords M I D)) (text : List ℕ) (text_space : ℕ) (space : Space)
    (medium : M) (before after : List DeviceState) (guest : Option GuestState) where
  closes_host : (r : RingView M) → r ≡ (loop_in seen v.records).ring → HandsBack r medium before after guest → IsClosed view (host_in view seen v text text_space space) medium before after guest
  closes_host r same back = record {
    tape = ap (λ m. (view m).tape) medium_is;
    faults = ap (λ m. (view m).faults) medium_is;
    shelf = ap (λ m. (view m).shelf) medium_is;
    inside = ap (λ m. (view m).inside) medium_is;
    devices_before = back.devices_before ∙ ap (λ (r : RingView M). r.before) same;
    devices_after = back.devices_after ∙ ap (λ (r : RingView M). r.after) same;
    guest_is = ap last_asked (back.guest_is ∙ ap (λ (r : RingView M). r.guest) same);
    moment = ap (λ m. (view m).moment) medium_is;
    since = subst (λ m. StandsStill (view s.drive.medium).left_since (view m).left_since) (sym medium_is) (still (view s.drive.medium).left_since);
  }
    where
      s : RingView M
      s = (loop_in seen v.records).ring

      medium_is : medium ≡ s.drive.medium
      medium_is = back.medium_is ∙ ap (λ (r : RingView M). r.drive.medium) same

  pub closes : (l : LoopRecords M I D) (r : RingView M) → l ≡ v.records → r ≡ (loop_in seen l).ring → HandsBack r medium before after guest → IsClosed view (host_in view seen v text text_space space) medium before after guest
  closes l r is same back = closes_host r (same ∙ ap (λ (l : LoopRecords M I D). (loop_in seen l).ring) is) back
