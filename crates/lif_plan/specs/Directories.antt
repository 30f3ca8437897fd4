-- A directory in memory that is legal.
use Rattle.std.specs.Prelude.{◌≡◌, ◌*◌, ℕ, List, true, length}
use Rattle.lif_model.specs.Header.{HeaderParts, header_of}
use Rattle.lif_model.specs.Legal.{is_legal_with}
use Rattle.lif_dir.specs.Entries.{AreSlots}

-- What some record 0 says, with which these slots are a legal directory on a tape of n records. They
-- fit into the directory, and none is an end.
pub record IsLegalDirectory (n : ℕ) (header : HeaderParts) (slots : List (List ℕ)) : Type 0 where
  pub bytes : List ℕ
  pub told : header ≡ header_of bytes
  pub legal : is_legal_with n bytes slots ≡ true
  pub whole : length bytes ≡ 256
  pub shape : AreSlots (8 * header.length) slots
