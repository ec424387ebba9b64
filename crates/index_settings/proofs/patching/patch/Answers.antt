use Rattle.index_settings.proofs.patching.patch.Goals as goal

pub returns : goal.returns
returns c = rw (c.in_ok-check_patch.ensures, c.in_ok-patch_checked.ensures)
