-- What rounds one after the other added, in the words of the entries that they appended.
use Rattle.std.specs.Prelude.{◌≡◌, ◌+◌, ◌++◌, ℕ, true, List, length, Option}
use Rattle.std.specs.List.{list_all}
use Rattle.il_frames.specs.declared.frame.Frame.{Frame}
use Rattle.il_frames.specs.declared.entry.Entry.{Entry}
use Rattle.il_device.specs.declared.device.Out.{Out}
use Rattle.il_device.specs.State.{risen_by}
use Rattle.il_ports.specs.Media.{MediumView}
use Rattle.il_drive.specs.Runs.{Ran}
use Rattle.loop_model.specs.Reach.{held_links, links_so_far}
use Rattle.loop_model.specs.Roles.{roles_after}
use Rattle.il_ring.specs.Guests.{KeepsGuest}
use Rattle.il_ring.specs.Rings.{RingView, devices_of, roles_of}
use Rattle.il_ring.specs.Rounded.{AllTook}
use Rattle.il_ring.specs.Turned.{is_on}
use Rattle.il_ring.specs.Lists.{First}
use Rattle.il_ring.specs.Polls.{is_no_poll, KeepsPlace}

-- The ring r became s. The log grew by these entries. Before them a frame of the device `from` was held that they account
-- for, and after them one of the device `to`, if any: as many links were crossed and as many frames came to each device as
-- the entries stand for. They are entries of this ring. The roles are those that the entries give. If no entry is a poll
-- message the places in the poll stay. These frames came to the drive, in this order.
pub record Adds {M : Type 0} (view : M → MediumView) (r : RingView M) (from : Option ℕ) (entries : List Entry) (to : Option ℕ) (s : RingView M) : Type 0 where
  pub log : s.books.log ≡ r.books.log ++ entries
  pub on : list_all (is_on (length (devices_of r))) entries ≡ true
  pub plan : s.books.plan ≡ r.books.plan
  pub begun : s.books.begun ≡ r.books.begun
  pub room : s.books.room ≡ r.books.room
  pub guest : KeepsGuest r.guest s.guest
  pub before : length s.before ≡ length r.before
  pub size : length (devices_of s) ≡ length (devices_of r)
  pub links : ℕ
  pub crossings : s.books.crossings ≡ risen_by links r.books.crossings
  pub linked : links + held_links (length (devices_of r)) from ≡ links_so_far (length (devices_of r)) entries to
  pub frames : AllTook (length (devices_of r)) from entries to 0 (devices_of r) (devices_of s)
  pub roles : roles_of (devices_of s) ≡ roles_after (roles_of (devices_of r)) entries
  pub places : list_all is_no_poll entries ≡ true → First KeepsPlace (length (devices_of r)) (devices_of r) (devices_of s)
  pub came : List Frame
  pub answers : List Out
  pub drive : Ran view r.drive came answers s.drive
