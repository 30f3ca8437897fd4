pub mod HostFiles
