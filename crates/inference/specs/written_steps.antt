-- Written steps by their parts, forward and back.
pub mod Parts
pub mod Laws
