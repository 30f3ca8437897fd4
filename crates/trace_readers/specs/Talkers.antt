-- What a reader of a log knows of talkers after the entries so far.
use Rattle.std.specs.Prelude.{◌≡◌, ℕ, Bool, List}
use Rattle.il_frames.specs.declared.entry.Entry.{Entry}
use Rattle.il_device.specs.declared.roles.Roles.{Roles}
use Rattle.loop_model.specs.Roles.{all_without_roles, roles_after, has_one_talker}

-- the roles of all devices, in the order of the ring; and whether at every moment at most one device
-- talked and only the talker spoke
pub record Talk : Type 0 where
  pub roles : List Roles
  pub had_one : Bool

-- this is known after a log that k devices without roles began
pub record IsTalkAfter (k : ℕ) (log : List Entry) (talk : Talk) : Type 0 where
  pub roles : talk.roles ≡ roles_after (all_without_roles k) log
  pub had_one : talk.had_one ≡ has_one_talker (all_without_roles k) log

-- the device talks
abbrev pub is_talker : Roles → Bool
is_talker r = r.talks
