use Rattle.lif_plan.proofs.directory.Directory.place_named.Given as goal

abbrev pub ghosts-place_of : goal.ghosts-place_of
ghosts-place_of a = record { name = a.blank.name; parts = a.blank.parts }
