mod Mounts
mod Inserts
mod Lends
mod Chains
mod Wholes
mod Performed
mod Compared
