use Rattle.std.proofs.Common.{◌≡◌, ◌≤◌, [], length, get_or, subst, rules}
use Rattle.std.specs.Prelude.{Some, None}
use Rattle.std.specs.String.{string_bytes}
use Rattle.lif_model.specs.Shelf.{image_of, bytes_of, largest_image, records_for}
use Rattle.lif_model.specs.Causes.{next_count}
use Rattle.il_ports.specs.Inserting.{records_made}
use Rattle.il_ports.specs.Drive.{images_of, place_of, with_bytes, longest_name}
use Rattle.il_ports.specs.MemoryMedium.{state_of}
use Rattle.il_ports.proofs.Shelves.{name_at, answer_shelved, answer_made}
use Rattle.il_ports.proofs.Kept.{drive_empty, first_of_name}
use Rattle.il_ports.proofs.memory_medium.MemoryMediumMedium.insert.Goals as goal

pub invariant_of-self-in-Take-clause-in_place : goal.invariant_of-self-in-Take-clause-in_place
invariant_of-self-in-Take-clause-in_place c =
    let self = c.args.self.now in
    first_of_name c.args.name.now (images_of self.images.items) c.in-Take.place (subst (λ l. place_of c.args.name.now (images_of l) ≡ Some c.in-Take.place) c.deref-2.ensures.value c.in-Take.ensures.0)

pub returns-in-Take-clause-counts : goal.returns-in-Take-clause-counts
returns-in-Take-clause-counts c =
    let self = c.args.self.now in
    let images = images_of self.images.items in
    let named : (get_or images c.in-Take.place ([], [])).0 ≡ c.args.name.now = name_at c.args.name.now images c.in-Take.place (subst (λ l. place_of c.args.name.now (images_of l) ≡ Some c.in-Take.place) c.deref-2.ensures.value c.in-Take.ensures.0) in
    let counted : c.saturating_add-self.result ≡ next_count self.inserts_made = search rules in
    λ i. record (state_of self) {
      shelf = with_bytes c.in-Take.place (bytes_of c.put_in.new.tape.items) images;
      inside = Some (named i);
      tape = Some c.put_in.new.tape.items;
      first = Some (c.put_in.ensures.same i);
      inserts_made = counted i;
    }

pub returns-in-Take-clause-answer : goal.returns-in-Take-clause-answer
returns-in-Take-clause-answer c =
    let self = c.args.self.now in
    let offer : (place_of c.args.name.now (images_of self.images.items) ≡ Some c.in-Take.place) × (image_of c.args.name.now (images_of self.images.items) ≡ Some c.in-Take.bytes.now) × (length c.in-Take.bytes.now ≤ largest_image) × (c.in-Take.records ≡ records_for (length c.in-Take.bytes.now))
    = subst (λ l. (place_of c.args.name.now (images_of l) ≡ Some c.in-Take.place) × (image_of c.args.name.now (images_of l) ≡ Some c.in-Take.bytes.now) × (length c.in-Take.bytes.now ≤ largest_image) × (c.in-Take.records ≡ records_for (length c.in-Take.bytes.now))) c.deref-2.ensures.value c.in-Take.ensures in
    answer_shelved _ c.in-Take.bytes.now _ self.drive _ self.tape.items _ _ _ c.in-Take.records (drive_empty self.drive self.tape.items self.size c.requires).0 c.put_in.ensures.size c.put_in.ensures.content offer

pub returns-in-Make-clause-answer : goal.returns-in-Make-clause-answer
returns-in-Make-clause-answer c =
    let self = c.args.self.now in
    let offer : (image_of c.args.name.now (images_of self.images.items) ≡ None) × (records_made c.args.new ≡ Some c.in-Make.records) × (length c.args.name.now ≤ longest_name)
    = subst (λ l. (image_of c.args.name.now (images_of l) ≡ None) × (records_made c.args.new ≡ Some c.in-Make.records) × (length c.args.name.now ≤ longest_name)) c.deref-2.ensures.value c.in-Make.ensures in
    let named : string_bytes c.push_str.new.self ≡ c.args.name.now = search rules in
    answer_made _ _ _ self.drive _ self.tape.items _ _ c.in-Make.records (drive_empty self.drive self.tape.items self.size c.requires).0 c.put_in-in-Make.ensures.size c.put_in-in-Make.ensures.content named offer
