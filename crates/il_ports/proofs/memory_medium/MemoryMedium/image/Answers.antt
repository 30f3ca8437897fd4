use Rattle.std.proofs.Common.{◌≡◌, ◌∙◌, sym, ap, rules, false}
use Rattle.std.specs.Prelude.{Some, None}
use Rattle.std.specs.Option.{option_copied}
use Rattle.lif_model.specs.Shelf.{image_of, bytes_of}
use Rattle.il_ports.specs.Drive.{images_of, place_of, is_inside}
use Rattle.il_ports.proofs.Shelves.{image_inside, image_beside, missing_place, outside_at}
use Rattle.il_ports.proofs.memory_medium.MemoryMedium.image.Goals as goal

pub returns-in_err-place : goal.returns-in_err-place
returns-in_err-place c =
    let self = c.args.self.now in
    let shelf = images_of self.images.items in
    let name = c.args.name.now in
    let none : option_copied c.from_residual.result ≡ None = search rules in
    let missing : place_of name shelf ≡ None = sym (ap (λ l. place_of name (images_of l)) c.deref-2.ensures.value) ∙ c.in_err-place.ensures.place in
    let bytes : image_of name shelf ≡ None = sym (ap (λ l. image_of name (images_of l)) c.deref-2.ensures.value) ∙ c.in_err-place.ensures.bytes in
    none ∙ sym (image_beside self.drive _ name _ shelf (sym c.has_made.ensures ∙ c.if-has_made.false) (λ place found. absurd (missing_place _ place missing found)) ∙ bytes)

pub returns-then-has_inside : goal.returns-then-has_inside
returns-then-has_inside c =
    let self = c.args.self.now in
    let shelf = images_of self.images.items in
    let name = c.args.name.now in
    let place : place_of name shelf ≡ Some c.in_ok-place.place = sym (ap (λ l. place_of name (images_of l)) c.deref-2.ensures.value) ∙ c.in_ok-place.ensures.place in
    let bytes : c.as_flattened-then-has_inside.result.now ≡ bytes_of self.tape.items = c.as_flattened-then-has_inside.ensures.value ∙ ap bytes_of c.deref-then-has_inside.ensures.value in
    ap Some bytes ∙ sym (image_inside self.drive _ name _ shelf _ (sym c.has_inside.ensures ∙ c.if-has_inside.true) place)

pub returns : goal.returns
returns c =
    let self = c.args.self.now in
    let shelf = images_of self.images.items in
    let name = c.args.name.now in
    let place : place_of name shelf ≡ Some c.in_ok-place.place = sym (ap (λ l. place_of name (images_of l)) c.deref-2.ensures.value) ∙ c.in_ok-place.ensures.place in
    let bytes : image_of name shelf ≡ Some c.in_ok-place.bytes.now = sym (ap (λ l. image_of name (images_of l)) c.deref-2.ensures.value) ∙ c.in_ok-place.ensures.bytes in
    let outside : is_inside self.drive c.in_ok-place.place ≡ false = sym c.has_inside.ensures ∙ c.if-has_inside.false in
    sym (image_beside self.drive _ name _ shelf (sym c.has_made.ensures ∙ c.if-has_made.false) (λ other found. outside_at self.drive _ _ other place found outside) ∙ bytes)
