-- Which paths name no file of a book, why its file isn't opened, and how it is used.
use Rattle.std.specs.Prelude.{◌≡◌, ℕ, ◌||◌, Bool, List, codes, bytes_eq, take}
use Rattle.std.specs.IoError.{error_kind}
use Rattle.std.specs.declared.io.ErrorKind.{ErrorKind}
use Rattle.office_io.specs.declared.status.ExitStatus.{ExitStatus}
use Rattle.sqlite.specs.declared.error.{Error.Error, ErrorCode.ErrorCode}
use Rattle.sqlite.specs.declared.Options.{Options}
use Rattle.sqlite_std_file.specs.declared.pair.OpenError.{OpenError}

-- SQLite's word for a base in memory, and a URI, name no file
abbrev pub names_no_file : List ℕ → Bool
names_no_file path = bytes_eq path (codes ":memory:") || bytes_eq (take 5 path) (codes "file:")

-- ---- why

abbrev pub cannot_open : Error
cannot_open = Error.SqliteFailure ErrorCode.CannotOpen

abbrev pub no_memory : Error
no_memory = Error.SqliteFailure ErrorCode.OutOfMemory

abbrev pub error_of_kind : ErrorKind → Error
error_of_kind ErrorKind.OutOfMemory = no_memory
error_of_kind _ = cannot_open

-- the file isn't opened for that reason
abbrev pub error_of : OpenError → Error
error_of OpenError.OutOfMemory = no_memory
error_of (OpenError.Io error) = error_of_kind (error_kind error)
error_of _ = cannot_open

-- how the program ends then
abbrev pub status_of : Error → ExitStatus
status_of (Error.SqliteFailure ErrorCode.OutOfMemory) = ExitStatus.NoMemory
status_of _ = ExitStatus.StoreFault

-- ---- how

-- 64 pages are held in memory, and all else is as SQLite has it
abbrev pub HoldsFewPages : Options → Type 0
HoldsFewPages options = (options.cache_pages ≡ 64) × (options.spill_pages ≡ 2000) × (options.checkpoint_frames ≡ 1000)
