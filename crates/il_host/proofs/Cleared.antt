-- A command that is performed on a page that was cleared.
use Rattle.std.proofs.Common.{◌≡◌, ℕ, List, []}
use Rattle.il_ports.specs.Media.{MediumView}
use Rattle.lif_volume.specs.declared.volume.Volume.{Volume}
use Rattle.il_ring.specs.declared.ring.Ring.{Ring}
use Rattle.il_ring.specs.Rings.{RingView}
use Rattle.il_record.specs.declared.records.LoopRecords.{LoopRecords}
use Rattle.il_script.specs.declared.reply.Reply.{Reply}
use Rattle.il_script.specs.Sheet.{Sheet}
use Rattle.host_model.specs.Requests.{Item}
use Rattle.il_host.specs.HostView.{HostView, Performed}
use Rattle.il_host.specs.Hosts.{Space, host_in}

module _ {M I : Type 0} {D : I → Type 0} (view : M → MediumView) (seen : Ring M I D → RingView M) (v : Volume (LoopRecords M I D)) (space : Space) (answered : Reply) (w : HostView) where
  -- what stood on it matters to nothing
  any_text : (item : Item) (text : List ℕ) (room : ℕ) → Performed item answered (host_in view seen v [] room space) w → Performed item answered (host_in view seen v text room space) w
  any_text item text room did = record {
    valid = did.valid;
    plan = did.plan;
    step = did.step;
    text = did.text;
    stops = did.stops;
    images = did.images;
    calls = did.calls;
  }

  pub on_cleared : {asked item : Item} (is : asked ≡ item) (page cleared : Sheet) → cleared ≡ record { text = []; room = page.room }
      → Performed item answered (host_in view seen v cleared.text cleared.room space) w → Performed asked answered (host_in view seen v page.text page.room space) w
  on_cleared is page cleared clear = rw is (rw clear (any_text _ page.text page.room))
