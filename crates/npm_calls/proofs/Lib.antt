mod Loaders
