-- Payloads that record tasks, as they stand behind an image.
use Rattle.std.specs.Prelude.{◌≡◌, ℕ, ◌+◌, List, [], ◌∷◌, Ok}
use Rattle.document_changes.specs.Changes.{ChangeData}
use Rattle.task_queue.specs.declared.task.Task.{Task}
use Rattle.search_routes.specs.Redo.{task_again}

-- these payloads are read again as these tasks, the first of which has this number
abbrev pub AreTasks : ℕ → List (List ℕ) → List (Task ChangeData) → Type 0
AreTasks number [] [] = Unit {0}
AreTasks number [] (t ∷ ts) = ⊥
AreTasks number (bytes ∷ more) [] = ⊥
AreTasks number (bytes ∷ more) (t ∷ ts) = (task_again number bytes ≡ Ok t) × AreTasks (number + 1) more ts
