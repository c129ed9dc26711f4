use Rattle.vab_store_tests.proofs.tests.one_of_three_is_found_in_at_most_two_comparisons.Given as
    goal

abbrev pub ghosts-found : goal.ghosts-found
ghosts-found g a = record { name = a.blank.name; parts = a.blank.parts }
