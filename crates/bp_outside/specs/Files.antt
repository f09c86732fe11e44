-- The files of a shelf in memory.
use Rattle.std.specs.Prelude.{ℕ, List, Option, Some, option_map, unwrap_or, find, bytes_eq, []}
use Rattle.bp_outside.specs.declared.named_file.NamedFile.{NamedFile}

-- A shelf in memory: its files, the numbers of the fetches that fail, the number of fetches so far, and the names whose
-- fetch failed.
pub record ShelfState : Type 0 where
  pub files : List NamedFile
  pub failing : List ℕ
  pub calls : ℕ
  pub failed : List (List ℕ)

-- the bytes of the first file of a name
abbrev pub held : List NamedFile → List ℕ → Option (List ℕ)
held files name = option_map (λ file. file.bytes) (find (λ file. bytes_eq file.name name) files)

-- the bytes of the first file of a name, and none for a name that no file has
abbrev pub held_or_empty : List NamedFile → List ℕ → Option (List ℕ)
held_or_empty files name = Some (unwrap_or (held files name) [])
