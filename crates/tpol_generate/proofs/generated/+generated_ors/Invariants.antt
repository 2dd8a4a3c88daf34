use Rattle.tpol_generate.proofs.generated.+generated_ors.Given as goal

abbrev pub decreases-generated_ors : goal.decreases-generated_ors
decreases-generated_ors l = l.more
