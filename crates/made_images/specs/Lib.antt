pub mod MadeImages
