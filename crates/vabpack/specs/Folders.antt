-- The program's status where the words of a folder can't be had.
use Rattle.std.specs.Prelude.{ℕ}
use Rattle.vabpack.specs.declared.folder.FolderFault.{FolderFault}
use Rattle.vabpack.specs.declared.folder.FolderFault.TheVariants as folders

abbrev pub folder_status_of : FolderFault → ℕ
folder_status_of (folders.Folder index fault) = 9
folder_status_of (folders.Empty index) = 2
folder_status_of folders.NoMemory = 8
