use Rattle.lif_rows.proofs.tables.places.Given as goal

abbrev pub ghosts-counted_places : goal.ghosts-counted_places
ghosts-counted_places g a = record { name = a.blank.name; parts = a.blank.parts }
