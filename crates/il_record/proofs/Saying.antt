-- Bytes for a device, with no command in front: the drive heeds none of them.
use Rattle.std.proofs.Common.{◌≡◌, ◌∙◌, ◌≤◌, ◌++◌, ◌&&◌, ℕ, true, not, List, [], ◌∷◌, None, map, take, length, refl, sym, ap, subst}
use Rattle.std.specs.List.{list_all}
use Rattle.std.proofs.lemmas.Bool.{and_parts, and_from}
use Rattle.std.specs.Prelude.{drop}
use Rattle.std.proofs.Math.Seq.{take-length}
use Rattle.std.proofs.lemmas.List.{take-append-drop}
use Rattle.il_frames.specs.declared.entry.Entry.{Entry}
use Rattle.il_ports.specs.Media.{MediumView}
use Rattle.il_drive.specs.declared.mode.Start.TheVariants as start
use Rattle.il_drive.proofs.ExchangesAddressed.{message_of-lad}
use Rattle.il_frames.specs.NamedFrames.{rfc, lad}
use Rattle.loop_model.specs.Exchanges.{Echo, Send, echoed, returned, commanded, is_echo, bytes_of}
use Rattle.loop_model.specs.Devices.{EachBecomes}
use Rattle.il_ring.specs.Journeys.{is_exact}
use Rattle.il_ring.specs.Rings.{RingView, devices_of, drive_party}
use Rattle.il_control.specs.Brought.{is_auto_address}
use Rattle.il_control.proofs.Brings.{send_from_here}
use Rattle.il_record.specs.Listening.{Hears, HearsPart}
use Rattle.il_record.specs.Asks.{AskHear, CameAsked}
use Rattle.il_record.specs.LoopCalls.{NotSaid, Said, say_asks}
use Rattle.il_record.specs.Sends.{filled, SentAll, SendBroke}
use Rattle.il_record.proofs.Asking.{asked_broken, asked_made}
use Rattle.il_record.proofs.CameLaws.{tape_same}
use Rattle.il_drive.proofs.Mild.{is_mild}
use Rattle.il_record.proofs.MildCame.{echo_mild, left_by, mild_entry, mild_frame, unl_brought, unl_cut}
use Rattle.il_record.proofs.HeardLogs.{send_echoes}
use Rattle.il_record.proofs.Sends.{filled_exact}

pub lad_mild : (a : ℕ) → a ≤ 30 → mild_frame (lad a) ≡ true
lad_mild a low = ap (λ m. is_exact m && (not (is_auto_address m) && is_mild m)) (message_of-lad a low)

all_mild : (ds : List Echo) → list_all is_echo ds ≡ true → list_all mild_entry (map (echoed 0) ds) ≡ true
all_mild [] legal = refl
all_mild (d ∷ ds) legal =
    let both = and_parts (is_echo d) (list_all is_echo ds) legal in
    and_from (mild_frame d.sent) (list_all mild_entry (map (echoed 0) ds)) (echo_mild start.Identity d both.0) (all_mild ds both.1)

abbrev behind_unl : ℕ → List Echo → List Entry
behind_unl a ds = returned 0 rfc ∷ commanded 0 (lad a) ++ ([] ++ map (echoed 0) ds)

behind_mild : (a : ℕ) (ds : List Echo) → a ≤ 30 → list_all is_echo ds ≡ true → list_all mild_entry (behind_unl a ds) ≡ true
behind_mild a ds low legal = and_from (mild_frame (lad a)) (list_all mild_entry (map (echoed 0) ds)) (lad_mild a low) (all_mild ds legal)

module _ {M : Type 0} (view : M → MediumView) (a : ℕ) (bytes : List ℕ) (r s : RingView M) (low : a ≤ 30) (silent : r.drive.state.interface.own ≡ None) where
  said_these : (sent : List ℕ) → sent ≡ bytes → SentAll view a None sent r s → Said view a bytes r s
  said_these sent is so =
      let adds = so.made.whole.adds in
      let legal = send_echoes r a None so.ds so.made.legal in
      let drive =
      left_by view adds.came adds.answers r.drive s.drive silent
      (unl_brought start.Identity (length (devices_of r)) (drive_party r) (behind_unl a so.ds) adds.came (behind_mild a so.ds low legal) (so.made.whole.brought (send_from_here (drive_party r) a None so.ds))) adds.drive in
      record {
        came = subst (λ bytes. CameAsked view true (say_asks a bytes) r s) (so.sent ∙ take-length sent ∙ is) (asked_made view (Send a None so.ds) r s so.made refl (tape_same view r.drive s.drive drive.medium));
        heard = subst (λ bytes. EachBecomes (Hears a bytes) 1 (devices_of r) (devices_of s)) (take-length sent ∙ is) so.heard;
        unheard = so.unheard;
        by_log = λ some here. so.by_log some here ∙ take-length sent ∙ is;
        drive = drive;
      }

  not_said_these : (sent : List ℕ) → sent ≡ bytes → SendBroke view a None sent r s → NotSaid view a bytes r s
  not_said_these sent is not =
      let broke = not.broken.broke in
      let legal = send_echoes r a None not.ds not.broken.legal in
      let drive =
      left_by view broke.adds.came broke.adds.answers r.drive s.drive silent
      (unl_cut start.Identity (length (devices_of r)) (drive_party r) broke.standing (behind_unl a not.ds) broke.adds.came (behind_mild a not.ds low legal) (broke.brought (send_from_here (drive_party r) a None not.ds))) broke.adds.drive in
      let rest = drop (length not.ds) sent in
      let all : bytes ≡ bytes_of not.ds ++ rest = sym is ∙ sym (take-append-drop (length not.ds) sent) ∙ ap (λ front. front ++ rest) (sym not.sent) in
      record {
        came = asked_broken view (AskHear a None bytes) [] (Send a None not.ds) r s (rest, ap (λ bytes. AskHear a None bytes) all) not.broken (tape_same view r.drive s.drive drive.medium);
        whole = not.whole;
        within = subst (λ bytes. not.whole ≤ length bytes) is not.whole_within;
        heard = subst (λ bytes. EachBecomes (HearsPart a not.whole bytes) 1 (devices_of r) (devices_of s)) is not.heard;
        unheard = not.unheard;
        by_log = λ some here. not.by_log some here ∙ ap (take not.whole) is;
        drive = drive;
      }

  pub said : (n : ℕ) → n ≡ length bytes → SentAll view a None (filled n bytes) r s → Said view a bytes r s
  said n is so = said_these (filled n bytes) (filled_exact n bytes (sym is)) so

  pub not_said : (n : ℕ) → n ≡ length bytes → SendBroke view a None (filled n bytes) r s → NotSaid view a bytes r s
  not_said n is not = not_said_these (filled n bytes) (filled_exact n bytes (sym is)) not
