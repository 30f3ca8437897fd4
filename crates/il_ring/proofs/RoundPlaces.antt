-- A message that is no poll message leaves the places in the parallel poll.
use Rattle.std.proofs.Common.{◌≡◌, ◌++◌, ℕ, true, false, List, [], ◌∷◌, Option, length, refl, sym, ◌∙◌}
use Rattle.std.specs.List.{list_all}
use Rattle.std.proofs.lemmas.Bool.{and_parts, not-true}
use Rattle.std.proofs.lemmas.List.Folds.{list_all-append}
use Rattle.il_frames.specs.declared.entry.Entry.{Entry}
use Rattle.il_frames.specs.declared.frame.Class.{Class}
use Rattle.il_frames.specs.declared.message.Message.{Message}
use Rattle.il_frames.specs.declared.message.Message.TheVariants as msg
use Rattle.il_frames.specs.Frames.{is_data_class}
use Rattle.il_frames.specs.Messages.{message_of, message_at}
use Rattle.il_poll.specs.declared.service.Assignment.{Assignment}
use Rattle.il_device.specs.declared.roles.Roles.{Roles}
use Rattle.il_device.specs.Roles.{assignment_after}
use Rattle.il_device.specs.State.{DeviceState}
use Rattle.il_ring.specs.Lists.{First}
use Rattle.il_ring.specs.Polls.{is_poll, is_no_poll, KeepsPlace}
use Rattle.il_ring.proofs.MessageKinds.{never_data}

-- ---- messages that are no poll messages

-- leave a place
pub place_kept : (m : Message) (r : Roles) (place : Option Assignment) → is_poll m ≡ false → assignment_after r place m ≡ place
place_kept (msg.Ppe n) r place keeps = cc
place_kept msg.Ppd r place keeps = cc
place_kept msg.Ppu r place keeps = cc
place_kept _ r place keeps = refl

pub data_no_poll : (k : Class) (byte : ℕ) → is_data_class k ≡ true → is_poll (message_at k byte) ≡ false
data_no_poll = never_data is_poll (λ n. refl) (λ n. refl) (λ n. refl) (λ n. refl)

-- ---- lists

-- the first entry is no poll message
pub first_no_poll : (e : Entry) (es : List Entry) → list_all is_no_poll (e ∷ es) ≡ true → is_poll (message_of e.frame) ≡ false
first_no_poll e es none = not-true _ (and_parts (is_no_poll e) (list_all is_no_poll es) none).0

pub no_poll_parts : (xs ys : List Entry) → list_all is_no_poll (xs ++ ys) ≡ true → (list_all is_no_poll xs ≡ true) × (list_all is_no_poll ys ≡ true)
no_poll_parts xs ys none = and_parts (list_all is_no_poll xs) (list_all is_no_poll ys) (sym (list_all-append is_no_poll xs ys) ∙ none)

pub places_nothing : (ds : List DeviceState) → First KeepsPlace (length ds) ds ds
places_nothing [] = tt
places_nothing (d ∷ ds) = (refl, places_nothing ds)

pub places_then : (cs ds es : List DeviceState) → First KeepsPlace (length cs) cs ds → First KeepsPlace (length ds) ds es → First KeepsPlace (length cs) cs es
places_then [] [] [] first more = tt
places_then (c ∷ cs) (d ∷ ds) (e ∷ es) first more = (more.0 ∙ first.0, places_then cs ds es first.1 more.1)
places_then [] [] (e ∷ es) first more = absurd more
places_then [] (d ∷ ds) es first more = absurd first
places_then (c ∷ cs) [] es first more = absurd first
places_then (c ∷ cs) (d ∷ ds) [] first more = absurd more
