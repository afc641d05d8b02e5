use Rattle.cls_machine_tests.proofs.table_tests.a_table_is_read_where_all_is_filed.Given as goal

abbrev pub ghosts-read_in_the_end : goal.ghosts-read_in_the_end
ghosts-read_in_the_end g a = record { name = a.blank.name; parts = a.blank.parts }
