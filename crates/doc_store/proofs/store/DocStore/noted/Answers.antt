use Rattle.doc_store.proofs.store.DocStore.noted.Goals as goal

pub loop-row-init : goal.loop-row-init
loop-row-init c = c.new_paths-new.ensures c.args.self.now.ids c.args.self.now.content c.requires.0 c.requires.1
