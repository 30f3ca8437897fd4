-- Files of the system and their names. Contracts cannot see their content: each permission may be given, and each count
-- is at its largest value.
use Rattle.std.specs.Prelude.{None, false, refl, ◌-◌, ◌^◌}
use Rattle.il_ports.specs.Files.{FileView, IsFile}
use Rattle.il_ports.specs.NamedImages.{ImagesView}

abbrev pub hidden_file : FileView
hidden_file = record {
  named = None;
  seen = None;
  kept = None;
  opened = λ access. Unit {0};
  made = Unit {0};
  apart = Unit {0};
  held = λ access. Unit {0};
  refused = Unit {0};
  unsynced = Unit {0};
  broken = false;
  failures = 2 ^ 64 - 1;
  moment = 0;
  left_since = λ m b. Unit {0};
}

pub hidden_is_file : IsFile hidden_file
hidden_is_file = record { told = refl; leaves_now = λ k b le is. tt; leaves_only = λ b c is left. cc }

abbrev pub hidden_images : ImagesView
hidden_images = record {
  shelf = None;
  was_found = λ name found. Unit {0};
  denied = λ name. Unit {0};
  settled = λ name how. Unit {0};
  failures = λ call. 2 ^ 64 - 1;
  removals = 2 ^ 64 - 1;
  makes = 2 ^ 64 - 1;
}
