-- What a device is on the loop keeps its rules at every message.
use Rattle.std.proofs.Common.{◌≡◌, ℕ, Bool, true, false, ◌&&◌, Option, Some, None, refl, arith}
use Rattle.std.specs.Prelude.{if◌then◌else◌}
use Rattle.std.proofs.lemmas.Bool.Decides.{nat_tests}
use Rattle.il_frames.specs.declared.message.Message.{Message}
use Rattle.il_frames.specs.declared.message.Message.TheVariants as msg
use Rattle.il_poll.specs.declared.service.Assignment.{Assignment}
use Rattle.il_poll.specs.Service.{IsPlace, assigned}
use Rattle.il_device.specs.declared.roles.Roles.{Roles}
use Rattle.il_device.specs.declared.interface.OwnFrame.{OwnFrame}
use Rattle.il_device.specs.Roles.{is_own, takes_address, roles_after, own_after, assignment_after, stopped}
use Rattle.il_device.specs.State.{IsAddress, IsSent, IsStanding}

-- what holds of both values holds of the chosen one
either_way : {A : Type 0} (P : A → Type 0) (b : Bool) (x y : A) → P x → P y → P (if b then x else y)
either_way P true x y h k = h
either_way P false x y h k = k

taken_address : (address : Option ℕ) (a : ℕ) → takes_address address a ≡ true → IsAddress (Some a)
taken_address None a h = grind (arith, nat_tests)
taken_address (Some b) a h = cc

address_taken : (r : Roles) (a : ℕ) (takes : Bool) → takes ≡ takes_address r.address a →
    IsAddress r.address →
    IsAddress (if takes then record r { address = Some a } else r).address
address_taken r a true e h = taken_address r.address a (cc)
address_taken r a false e h = h

address_after : (r : Roles) (m : Message) → IsAddress r.address →
    IsAddress (roles_after r m).address
address_after r msg.Aau h = tt
address_after r (msg.Aad a) h = address_taken r a (takes_address r.address a) refl h
address_after r (msg.Tad a) h = either_way (λ (x : Roles). IsAddress x.address) (is_own r.address a) (record r { talks = true; listens = false }) (record r { talks = false }) h h
address_after r (msg.Lad a) h = either_way (λ (x : Roles). IsAddress x.address) (is_own r.address a) (record r { talks = false; listens = true }) r h h
address_after r _ h = h

and_false : (b : Bool) → (b && false) ≡ false
and_false true = refl
and_false false = refl

abbrev IsOneRole : Roles → Type 0
IsOneRole r = (r.talks && r.listens) ≡ false

one_role_after : (r : Roles) (m : Message) → IsOneRole r → IsOneRole (roles_after r m)
one_role_after r msg.Ifc h = refl
one_role_after r msg.Aau h = refl
one_role_after r (msg.Aad a) h = either_way IsOneRole (takes_address r.address a) (record r { address = Some a }) r h h
one_role_after r (msg.Tad a) h = either_way IsOneRole (is_own r.address a) (record r { talks = true; listens = false }) (record r { talks = false }) refl refl
one_role_after r msg.Unt h = refl
one_role_after r (msg.Lad a) h = either_way IsOneRole (is_own r.address a) (record r { talks = false; listens = true }) r refl h
one_role_after r msg.Unl h = and_false r.talks
one_role_after r _ h = h

-- a listener loses its own frame together with its role as the talker
sender_listens : (own : Option OwnFrame) (mine : Bool) (r : Roles) → IsSent own r.talks →
    IsSent (if mine then None else own) (if mine then record r { talks = false; listens = true } else r).talks
sender_listens own true r h = tt
sender_listens own false r h = h

sender_stopped : (own : Option OwnFrame) (talks : Bool) → IsSent own talks →
    IsSent (stopped own) talks
sender_stopped None talks h = h
sender_stopped (Some own) talks h = h

sender_after : (r : Roles) (own : Option OwnFrame) (m : Message) → IsSent own r.talks →
    IsSent (own_after r own m) (roles_after r m).talks
sender_after r own msg.Ifc h = tt
sender_after r own msg.Aau h = tt
sender_after r own (msg.Aad a) h = either_way (λ (x : Roles). IsSent own x.talks) (takes_address r.address a) (record r { address = Some a }) r h h
sender_after r own (msg.Tad a) h = tt
sender_after r own msg.Unt h = tt
sender_after r own (msg.Lad a) h = sender_listens own (is_own r.address a) r h
sender_after r own msg.Nrd h = sender_stopped own r.talks h
sender_after r own _ h = h

place_after : (r : Roles) (place : Option Assignment) (m : Message) → IsPlace place →
    IsPlace (assignment_after r place m)
place_after r place (msg.Ppe n) h = either_way IsPlace r.listens (Some (assigned n)) place (omega arith) h
place_after r place msg.Ppd h = either_way IsPlace r.listens None place tt h
place_after r place msg.Ppu h = tt
place_after r place _ h = h

pub IsStanding-after : (r : Roles) (own : Option OwnFrame) (place : Option Assignment) (m : Message) →
    IsStanding r own place →
    IsStanding (roles_after r m) (own_after r own m) (assignment_after r place m)
IsStanding-after r own place m h = record {
  address = address_after r m h.address;
  one_role = one_role_after r m h.one_role;
  sender = sender_after r own m h.sender;
  in_poll = place_after r place m h.in_poll;
}
