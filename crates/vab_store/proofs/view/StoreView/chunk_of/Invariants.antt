use Rattle.vab_store.proofs.view.StoreView.chunk_of.Given as goal

abbrev pub ghosts-find_from : goal.ghosts-find_from
ghosts-find_from a = record { name = a.blank.name; parts = a.blank.parts }
