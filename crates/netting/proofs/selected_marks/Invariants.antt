-- The rounds and the passes are those of the ledger that the book means.
use Rattle.netting.proofs.selected_marks.Given as goal

abbrev pub ghost-drop_short : goal.ghost-drop_short
ghost-drop_short g a = g.b

abbrev pub ghost-put_back : goal.ghost-put_back
ghost-put_back g a = g.b
